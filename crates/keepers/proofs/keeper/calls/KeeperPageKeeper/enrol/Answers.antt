use Rattle.std.proofs.Common.{is_ok, vec_items, sym, ◌∙◌, rules}
use Rattle.keepers.proofs.Shares.{share_added, kept_held, kept_enrol_answer, kept_enrolled}
use Rattle.keepers.proofs.Values.{placed, guest_if}
use Rattle.keepers.proofs.keeper.calls.KeeperPageKeeper.enrol.Goals as goal

pub returns-then-is_held : goal.returns-then-is_held
returns-then-is_held g c =
    let s = g.S.PageShare in
    let o = placed c.args.guest c.in_ok-place.place c.in_ok-place.ensures.answer in
    let t = kept_held (λ z. s.share (s.order z)) (vec_items c.args.self.now.shares) (search rules) c.args.guest c.args.page o.guest (sym c.if-is_held.ensures.answer) in
    record { answer = t.0; after = t.1; order = search rules }

pub returns : goal.returns
returns g c =
    let s = g.S.PageShare in
    let xs = vec_items c.args.self.now.shares in
    let n = c.args.guest in
    let p = c.args.page in
    let i = c.in_ok-place.place in
    let o = placed n i c.in_ok-place.ensures.answer in
    let x = c.index_mut.result.now in
    let y = c.add.new.self in
    let r = c.add.result in
    let h = sym c.if-is_held.ensures.answer in
    let t = share_added s.share (s.order x) (s.order y) p r (s.added (s.order x) p) (g.met.S.PageShare.adds (s.order x) p) c.add.ensures.answer c.add.ensures.after in
    record {
      answer = c.add.ensures.answer ∙ kept_enrol_answer (λ z. s.share (s.order z)) xs (search rules) n i o x (search rules) p h;
      after = kept_enrolled (λ z. s.share (s.order z)) xs (search rules) n i o x (search rules) y p h t;
      order = guest_if s.none s.order xs (search rules) n i o x (search rules) y (λ q. s.added q p) (is_ok r) c.add.ensures.after;
    }
