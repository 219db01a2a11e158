-- Lists of page numbers as sets.
use Rattle.std.specs.Prelude.{ℕ, Bool, true, not, ◌&&◌, List, [], ◌∷◌}
use Rattle.platform.specs.Lists.{member}

-- no number stands twice
abbrev pub distinct : List ℕ → Bool
distinct [] = true
distinct (x ∷ xs) = not (member x xs) && distinct xs

-- each number of the first list stands in the second
abbrev pub all_in : List ℕ → List ℕ → Bool
all_in [] ps = true
all_in (x ∷ xs) ps = member x ps && all_in xs ps

-- what a stack keeps: no page twice, no free page twice, and each free page is enrolled
abbrev pub stacked : List ℕ → List ℕ → Bool
stacked ps fs = distinct ps && (distinct fs && all_in fs ps)
