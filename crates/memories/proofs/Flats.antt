-- Words in one row: one of them changed.
use Rattle.std.proofs.Common.{◌≡◌, ℕ, ◌+◌, ◌*◌, ◌<◌, true, List, set, length-set, rules}
use Rattle.platform.specs.Memories.{put}
use Rattle.memories.specs.Flat.{reach, flat}
use Rattle.memories.proofs.Tables.{same_mem}

pub flat_put : (xs : List ℕ) (p k w : ℕ) → reach xs p ≡ true → k < 1024 → flat (set xs (p * 1024 + k) w) ≡ put (flat xs) p k w
flat_put xs p k w r l =
    same_mem (flat (set xs (p * 1024 + k) w)) (put (flat xs) p k w)
    (λ q. search (rules, length-set))
    (λ q j. search rules)
