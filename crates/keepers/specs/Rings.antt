-- Each guest's marks as rings, and which page a take gives.
use Rattle.std.specs.Prelude.{ℕ, vec_items, Result}
use Rattle.platform.specs.declared.refusal.Refusal.{Refusal}
use Rattle.keepers.specs.declared.keeper.Keeper.{Keeper}
use Rattle.keepers.specs.declared.marks.PageMarks.{PageMarks}
use Rattle.keepers.specs.Orders.{orders_of, changed_if, chosen_by, left_by}
use Rattle.keepers.specs.Rows.{Ring, no_ring, ring_with, ring_freed, round_answer, round_after}

abbrev pub ring_of : PageMarks → Ring
ring_of s = record { marks = vec_items s.marks; next = s.next }

-- each guest's marks
abbrev pub rings_of : Keeper PageMarks → ℕ → Ring
rings_of k = orders_of no_ring ring_of k

-- a page that is enrolled has the last mark of its guest; a refusal leaves all
abbrev pub enrolled_if : Result (Unit {0}) Refusal → (ℕ → Ring) → ℕ → ℕ → ℕ → Ring
enrolled_if r s g p = changed_if r ring_with s g p

-- a page that is given back is free where its mark stands; a refusal leaves all
abbrev pub freed_if : Result (Unit {0}) Refusal → (ℕ → Ring) → ℕ → ℕ → ℕ → Ring
freed_if r s g p = changed_if r ring_freed s g p

-- a take goes round the guest's marks
abbrev pub round_chosen : (ℕ → Ring) → ℕ → Result ℕ Refusal
round_chosen s g = chosen_by round_answer s g

abbrev pub round_left : (ℕ → Ring) → ℕ → ℕ → Ring
round_left s g = left_by round_after s g
