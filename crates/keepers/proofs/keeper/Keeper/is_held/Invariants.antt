use Rattle.std.proofs.Common.{◌≡◌, drop, vec_items}
use Rattle.std.specs.List.{list_any}
use Rattle.platform.specs.Lists.{member}
use Rattle.keepers.proofs.keeper.Keeper.is_held.Given as goal

-- some share has the page if one from the place on has it
abbrev pub invariant-loop-place : goal.invariant-loop-place
invariant-loop-place g l =
    list_any (λ s. member l.page (g.S.PageShare.share (g.S.PageShare.order s)).pages) (vec_items l.self.shares)
    ≡ list_any (λ s. member l.page (g.S.PageShare.share (g.S.PageShare.order s)).pages) (drop l.place (vec_items l.self.shares))
