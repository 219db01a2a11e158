use Rattle.std.proofs.Common.{vec_items, rules}
use Rattle.keepers.proofs.Shares.{none_held}
use Rattle.keepers.proofs.Values.{Plain, plain_set, plain_all}
use Rattle.keepers.proofs.keeper.calls.KeeperPageKeeper.empty.Goals as goal

pub loop-i-preserved : goal.loop-i-preserved
loop-i-preserved g c =
    let s = g.S.PageShare in
    plain_set s.none s.order (vec_items c.loop-i.self.shares) c.loop-i.i c.clear.new.self (search rules) c.loop-i.invariant c.clear.ensures.after

pub returns : goal.returns
returns g c =
    let s = g.S.PageShare in
    let xs = vec_items c.loop-i.self.shares in
    let p : Plain s.none s.order xs 8 = λ j l. c.loop-i.invariant j (search rules) in
    record { after = none_held s.share s.none s.order xs g.met.S.PageShare.without p; order = plain_all s.none s.order xs p }
