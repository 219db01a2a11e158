use Rattle.std.proofs.Common.{vec_items}
use Rattle.keepers.proofs.Values.{Plain}
use Rattle.keepers.proofs.keeper.calls.KeeperPageKeeper.empty.Given as goal

-- the first i shares are without pages
abbrev pub invariant-loop-i : goal.invariant-loop-i
invariant-loop-i g l = Plain g.S.PageShare.none g.S.PageShare.order (vec_items l.self.shares) l.i
