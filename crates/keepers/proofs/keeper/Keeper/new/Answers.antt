use Rattle.std.proofs.Common.{vec_items, rules}
use Rattle.keepers.proofs.Shares.{none_held}
use Rattle.keepers.proofs.Values.{Plain, plain_push, plain_all}
use Rattle.keepers.proofs.keeper.Keeper.new.Goals as goal

pub loop-preserved : goal.loop-preserved
loop-preserved g c =
    let s = g.S.PageShare in (
      search rules,
      search rules,
      plain_push s.none s.order (vec_items c.loop.shares) (vec_items c.push_reserved.new.self) c.in_ok-new.field-0 c.loop.counter c.push_reserved.ensures.items (search rules) c.loop.invariant.2 c.in_ok-new.ensures.answer,
    )

pub returns : goal.returns
returns g c =
    let s = g.S.PageShare in
    let xs = vec_items c.loop.shares in
    let p : Plain s.none s.order xs 8 = λ j l. c.loop.invariant.2 j (search rules) in
    record { answer = none_held s.share s.none s.order xs g.met.S.PageShare.without p; order = plain_all s.none s.order xs p }
