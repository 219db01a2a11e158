use Rattle.std.proofs.Common.{vec_items, sym, ap, ◌∙◌, rules}
use Rattle.std.proofs.lemmas.Bool.{cond-true}
use Rattle.platform.specs.Guests.{is_guest}
use Rattle.keepers.proofs.Shares.{kept_taken}
use Rattle.keepers.proofs.Values.{placed, guest_read, guest_changed}
use Rattle.keepers.proofs.keeper.calls.KeeperPageKeeper.take.Goals as goal

pub returns : goal.returns
returns g c =
    let s = g.S.PageShare in
    let xs = vec_items c.args.self.now.shares in
    let n = c.args.guest in
    let i = c.in_ok-place_of.field-0 in
    let o = placed n i c.in_ok-place_of.ensures.answer in
    let x = c.index_mut.result.now in
    record {
      taken = kept_taken (λ z. s.share (s.order z)) xs (search rules) n i o x (search rules) c.take.result c.take.new.self c.take.ensures.taken;
      chosen = c.take.ensures.answer ∙ ap s.chosen (sym (guest_read s.none s.order xs (search rules) n i o x (search rules))) ∙ sym (cond-true (is_guest n) _ _ o.guest);
      order = guest_changed s.none s.order xs (search rules) n i o x (search rules) c.take.new.self s.left c.take.ensures.after;
    }
