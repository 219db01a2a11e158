-- Tests over lists and over numbers.
use Rattle.std.specs.List.{list_any}
use Rattle.std.specs.Prelude.{ℕ, zero, suc, ◌+◌, Bool, false, cond, ◌||◌, List, [], ◌∷◌, nat_eq}

-- whether some number below n passes a test
abbrev pub any_below : (ℕ → Bool) → ℕ → Bool
any_below f zero = false
any_below f (suc n) = f n || any_below f n

-- whether a number stands in a list
abbrev pub member : ℕ → List ℕ → Bool
member p xs = list_any (λ x. nat_eq x p) xs

-- how many items pass a test
abbrev pub count : {A : Type 0} → (A → Bool) → List A → ℕ
count f [] = 0
count f (x ∷ xs) = cond (f x) (1 + count f xs) (count f xs)
