use Rattle.std.proofs.Common.{vec_items, rules}
use Rattle.std.proofs.lemmas.List.{take_all}
use Rattle.keepers.proofs.Rows.{free_counted}
use Rattle.keepers.proofs.marks.share.PageMarksPageShare.free_count.Goals as goal

pub returns : goal.returns
returns c =
    let ms = vec_items c.args.self.now.marks in
    let t = take_all c.loop-mark.mark-index ms (search rules) in
    let e = free_counted ms c.args.self.now.neat in
    search rules
