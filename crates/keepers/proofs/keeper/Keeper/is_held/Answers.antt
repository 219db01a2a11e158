use Rattle.std.proofs.Common.{vec_items, rules}
use Rattle.platform.specs.Lists.{member}
use Rattle.platform.proofs.Lists.{any_here, any_on, any_none}
use Rattle.keepers.proofs.keeper.Keeper.is_held.Goals as goal

pub returns-then-holds : goal.returns-then-holds
returns-then-holds g c =
    record { answer = any_here (λ s. member c.args.page (g.S.PageShare.share (g.S.PageShare.order s)).pages) (vec_items c.args.self.now.shares) c.loop-place.place c.index.result.now (search rules) c.index.ensures (search rules) c.loop-place.invariant }

pub loop-place-preserved : goal.loop-place-preserved
loop-place-preserved g c =
    any_on (λ s. member c.args.page (g.S.PageShare.share (g.S.PageShare.order s)).pages) (vec_items c.args.self.now.shares) c.loop-place.place c.index.result.now (search rules) c.index.ensures (search rules) c.loop-place.invariant

pub returns : goal.returns
returns g c = record { answer = any_none (λ s. member c.args.page (g.S.PageShare.share (g.S.PageShare.order s)).pages) (vec_items c.args.self.now.shares) c.loop-place.place (search rules) c.loop-place.invariant }
