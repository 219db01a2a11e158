use Rattle.std.proofs.Common.{is_ok, vec_items, ◌∙◌, rules}
use Rattle.keepers.proofs.Shares.{share_given, kept_give_answer, kept_given}
use Rattle.keepers.proofs.Values.{placed, guest_if}
use Rattle.keepers.proofs.keeper.calls.KeeperPageKeeper.give.Goals as goal

pub returns : goal.returns
returns g c =
    let s = g.S.PageShare in
    let xs = vec_items c.args.self.now.shares in
    let n = c.args.guest in
    let p = c.args.page in
    let i = c.in_ok-place_of.field-0 in
    let o = placed n i c.in_ok-place_of.ensures.answer in
    let x = c.index_mut.result.now in
    let y = c.give.new.self in
    let r = c.give.result in
    let t = share_given s.share (s.order x) (s.order y) p r (s.freed (s.order x) p) (g.met.S.PageShare.frees (s.order x) p) c.give.ensures.answer c.give.ensures.after in
    record {
      answer = c.give.ensures.answer ∙ kept_give_answer (λ z. s.share (s.order z)) xs (search rules) n i o x (search rules) p;
      after = kept_given (λ z. s.share (s.order z)) xs (search rules) n i o x (search rules) y p t;
      order = guest_if s.none s.order xs (search rules) n i o x (search rules) y (λ q. s.freed q p) (is_ok r) c.give.ensures.after;
    }
