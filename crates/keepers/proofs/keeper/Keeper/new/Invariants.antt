use Rattle.std.proofs.Common.{◌≡◌, ◌≤◌, vec_items, vec_len, vec_capacity}
use Rattle.keepers.proofs.Values.{Plain}
use Rattle.keepers.proofs.keeper.Keeper.new.Given as goal

-- all shares that are made are without pages
abbrev pub invariant-loop : goal.invariant-loop
invariant-loop g l =
    (vec_len l.shares ≡ l.counter) × (8 ≤ vec_capacity l.shares)
    × Plain g.S.PageShare.none g.S.PageShare.order (vec_items l.shares) l.counter
