-- One guest's marks, and how a take goes round them.
use Rattle.std.specs.Prelude.{ℕ, zero, suc, ◌+◌, Bool, true, false, ◌&&◌, List, [], ◌∷◌, ◌++◌, drop, Some, None, Ok, Err, Option, Result, ◌==◌}
use Rattle.platform.specs.declared.refusal.Refusal.{Refusal}
use Rattle.platform.specs.declared.refusal.Refusal.TheVariants.{KeeperRefuses}
use Rattle.std.specs.List.{list_any, position, position_or_len}
use Rattle.std.specs.Option.{option_map, option_or}
use Rattle.keepers.specs.declared.mark.Mark.{Mark}
use Rattle.keepers.specs.Shares.{Share}

-- the pages that have marks
abbrev pub pages_of : List Mark → List ℕ
pages_of [] = []
pages_of (m ∷ ms) = m.page ∷ pages_of ms

-- some mark is page p's, and free
abbrev pub is_free : List Mark → ℕ → Bool
is_free ms p = list_any (λ m. (m.page == p) && m.free) ms

-- the place of page p's mark, the number of marks where it has none
abbrev pub place_of : List Mark → ℕ → ℕ
place_of ms p = position_or_len (λ m. m.page == p) ms

abbrev pub found_at : List Mark → ℕ → Option ℕ
found_at ms p = position (λ m. m.page == p) ms

-- the place of the first free mark from place i on
abbrev pub free_from : List Mark → ℕ → Option ℕ
free_from ms i = option_map (λ n. i + n) (position (λ m. m.free) (drop i ms))

-- the first free mark from place i on, else from the start
abbrev pub round_place : List Mark → ℕ → Option ℕ
round_place ms i = option_or (free_from ms i) (free_from ms 0)

-- the page at a place, 0 past the end
abbrev pub page_at : List Mark → ℕ → ℕ
page_at [] i = 0
page_at (m ∷ ms) zero = m.page
page_at (m ∷ ms) (suc i) = page_at ms i

-- the mark at a place made free, or not
abbrev pub set_free : List Mark → ℕ → Bool → List Mark
set_free [] i b = []
set_free (m ∷ ms) zero b = (record { page = m.page; free = b }) ∷ ms
set_free (m ∷ ms) (suc i) b = m ∷ set_free ms i b

-- the marks, and the place after the one taken last
pub record Ring : Type 0 where
  pub marks : List Mark
  pub next : ℕ

abbrev pub no_ring : Ring
no_ring = record { marks = []; next = 0 }

-- what marks mean
abbrev pub ring_share : Ring → Share
ring_share r = record { pages = pages_of r.marks; free = is_free r.marks }

-- page p more, free
abbrev pub ring_with : Ring → ℕ → Ring
ring_with r p = record { marks = r.marks ++ (record { page = p; free = true }) ∷ []; next = r.next }

-- page p free
abbrev pub ring_freed : Ring → ℕ → Ring
ring_freed r p = record { marks = set_free r.marks (place_of r.marks p) true; next = r.next }

abbrev pub taken_answer : Ring → Option ℕ → Result ℕ Refusal
taken_answer r None = Err KeeperRefuses
taken_answer r (Some i) = Ok (page_at r.marks i)

abbrev pub taken_after : Ring → Option ℕ → Ring
taken_after r None = r
taken_after r (Some i) = record { marks = set_free r.marks i false; next = i + 1 }

-- a take answers the page of the first free mark, going round from the place after the one taken last,
-- which is then not free and is the one taken last
abbrev pub round_answer : Ring → Result ℕ Refusal
round_answer r = taken_answer r (round_place r.marks r.next)

abbrev pub round_after : Ring → Ring
round_after r = taken_after r (round_place r.marks r.next)
