-- Loops over the guests, one further.
use Rattle.std.proofs.Common.{◌≡◌, ℕ, zero, suc, ◌+◌, ◌≤◌, true, false, refl, sym, ap, ◌∙◌, add-one, arith}
use Rattle.platform.proofs.Lists.{below_here, below_on}
use Rattle.runner.specs.States.{State}
use Rattle.runner.specs.Starts.{short_guest, any_short, admit_one, admit_all}

pub admit_none : (s : State) (k : ℕ) → 1 ≡ k + 1 → s ≡ admit_all s k
unfolding admit_all
admit_none s zero e = refl
admit_none s (suc k) e = absurd (omega arith)

pub admit_next : (s t : State) (g k : ℕ) → 1 ≤ g → ((j : ℕ) → g ≡ j + 1 → t ≡ admit_all s j) → g + 1 ≡ k + 1 → admit_one t g ≡ admit_all s k
unfolding admit_all
admit_next s t zero k l h e = absurd (omega arith)
admit_next s t (suc j) k l h e =
    let p : j + 1 ≡ suc j = add-one j in
    let q : suc j ≡ k = omega arith in
    ap (λ (x : State). admit_one x (suc j)) (h j (omega arith)) ∙ ap (λ i. admit_one (admit_all s j) i) (sym p) ∙ ap (admit_all s) q

pub short_none : (s : State) (n k : ℕ) → 1 ≡ k + 1 → any_short s n k ≡ false
unfolding any_short
short_none s n zero e = refl
short_none s n (suc k) e = absurd (omega arith)

pub short_here : (s : State) (n g k : ℕ) → 1 ≤ g → g ≤ k → short_guest s n g ≡ true → any_short s n k ≡ true
unfolding any_short
short_here s n zero k a b e = absurd (omega arith)
short_here s n (suc i) k a b e = below_here (λ j. short_guest s n (j + 1)) i k (omega arith) (ap (short_guest s n) (add-one i) ∙ e)

pub short_next : (s : State) (n g k : ℕ) → 1 ≤ g → ((j : ℕ) → g ≡ j + 1 → any_short s n j ≡ false) → short_guest s n g ≡ false → g + 1 ≡ k + 1 → any_short s n k ≡ false
unfolding any_short
short_next s n zero k l h t e = absurd (omega arith)
short_next s n (suc i) k l h t e =
    let q : i + 1 ≡ k = omega arith in
    sym (ap (any_short s n) q) ∙ below_on (λ j. short_guest s n (j + 1)) i (h i (omega arith)) (ap (short_guest s n) (add-one i) ∙ t)
