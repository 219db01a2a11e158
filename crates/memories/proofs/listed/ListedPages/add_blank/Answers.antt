use Rattle.std.proofs.Common.{vec_items, ap, ◌∙◌}
use Rattle.memories.specs.Listed.{listed}
use Rattle.memories.proofs.Tables.{listed_blank}
use Rattle.memories.proofs.listed.ListedPages.add_blank.Goals as goal

pub returns : goal.returns
returns c =
    let e = ap listed c.push_reserved.ensures.items ∙ listed_blank (vec_items c.args.self.now.pages) c.blank.result c.args.page c.blank.ensures.answer in
    record { after = cc (e, c.push_reserved.ensures.len) }
