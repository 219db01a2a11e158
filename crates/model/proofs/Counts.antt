-- How many pages are free.
use Rattle.std.proofs.Common.{◌≡◌, ℕ, suc, ◌-◌, Bool, true, false, eqb, List, [], ◌∷◌, length, sym, refl, arith, eq-eqb, ne_eqb, eqb-true}
use borrow.Author.Tests.{eqb-false}
use Rattle.platform.specs.Lists.{count, member}
use Rattle.model.proofs.Plain.{at}
use Rattle.model.proofs.Basics.{test}

-- how often a number stands in a list
abbrev times : ℕ → List ℕ → ℕ
times p l = count (λ q. eqb q p) l

-- a test that passes at each page of the list
count_full : (f : ℕ → Bool) (l : List ℕ) → ((p : ℕ) → member p l ≡ true → f p ≡ true) → count f l ≡ length l
count_full f [] h = refl
count_full f (p ∷ l) h =
    let e : f p ≡ true = h p (rw (eq-eqb p p refl)) in
    let c = count_full f l (λ q m. h q (grind arith)) in
    rw e (omega arith)

pub count_all : (l : List ℕ) → count (λ p. member p l) l ≡ length l
count_all l = count_full (λ p. member p l) l (λ p m. m)

pub count_same : (f g : ℕ → Bool) (l : List ℕ) → ((p : ℕ) → f p ≡ g p) → count f l ≡ count g l
count_same f g [] h = refl
count_same f g (p ∷ l) h = rw (h p, count_same f g l h)

count_none : (f : ℕ → Bool) (p : ℕ) (l : List ℕ) → times p l ≡ 0 → count (at f p false) l ≡ count f l
count_none f p [] o = refl
count_none f p (q ∷ l) o =
    let n : eqb p q ≡ false = grind arith in
    let m : times p l ≡ 0 = grind arith in
    let ih = count_none f p l m in
    grind (arith)

count_less : (f : ℕ → Bool) (p : ℕ) (l : List ℕ) → f p ≡ true → times p l ≡ 1 → suc (count (at f p false) l) ≡ count f l
count_less f p [] e o = grind arith
count_less f p (q ∷ l) e o =
    test (eqb p q)
    (λ t. let m : times p l ≡ 0 = grind arith in let c = count_none f p l m in let pq = eqb-true p q t in grind arith)
    (λ t. let m : times p l ≡ 1 = grind arith in let c = count_less f p l e m in let n : eqb q p ≡ false = ne_eqb q p (λ z. eqb-false p q t (sym z)) in test (f q) (λ b. rw (n, b) (omega arith)) (λ b. rw (n, b) c))

pub count_take : (f : ℕ → Bool) (p : ℕ) (l : List ℕ) → f p ≡ true → times p l ≡ 1 → count (at f p false) l ≡ count f l - 1
count_take f p l e o = let c = count_less f p l e o in omega arith
