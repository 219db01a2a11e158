-- What the clauses `order` and `chosen` of a keeper say of each make: of a stack keeper's free pages alone, and of a marks keeper's rings.
use Rattle.std.proofs.Common.{◌≡◌, ℕ, ◌+◌, ◌-◌, ◌<◌, false, List, [], ◌∷◌, ◌++◌, length, get_or, take, Ok, Err, Result, sym, refl, ap, ◌∙◌, ⊎_elim, arith, rules}
use mathlib.Core.Path.{fun_ext}
use Rattle.std.proofs.lemmas.Bool.{cond-false, cases_Bool}
use Rattle.std.proofs.lemmas.List.{take_more, take_all}
use Rattle.platform.specs.declared.refusal.Refusal.{Refusal}
use Rattle.platform.specs.Guests.{is_guest}
use Rattle.keepers.specs.declared.keeper.Keeper.{Keeper}
use Rattle.keepers.specs.declared.marks.PageMarks.{PageMarks}
use Rattle.keepers.specs.declared.stack.PageStack.{PageStack}
use Rattle.keepers.specs.Orders.{orders_of, changed_if, chosen_by, left_by}
use Rattle.keepers.specs.Rings.{ring_of, rings_of, enrolled_if, freed_if, round_chosen, round_left}
use Rattle.keepers.specs.Rows.{no_ring, ring_with, ring_freed, round_answer, round_after}
use Rattle.keepers.specs.Stacks.{Pile, no_pile, pile_of, pile_with, pile_freed, pile_answer, pile_after, stack_of, pushed_if, TopTaken}

abbrev tops : (ℕ → Pile) → ℕ → List ℕ
tops s = λ h. (s h).free

-- a page on top of one guest's pile
push_if : (s t : ℕ → Pile) (r : Result (Unit {0}) Refusal) (change : Pile → ℕ → Pile) (g p : ℕ) → ((o : Pile) → (change o p).free ≡ o.free ++ p ∷ [])
    → t ≡ changed_if r change s g p → tops t ≡ pushed_if r (tops s) g p
push_if s t (Ok u) change g p c e = ap tops e ∙ fun_ext (λ h. let a = c (s g) in search rules)
push_if s t (Err m) change g p c e = ap tops e

-- a list without its last number, and that number
last_off : (fs : List ℕ) → 0 < length fs → fs ≡ take (length fs - 1) fs ++ get_or fs (length fs - 1) 0 ∷ []
last_off fs l =
    let n : length fs - 1 + 1 ≡ length fs = omega arith in
    sym (ap (λ (i : ℕ). take i fs) n ∙ take_all (length fs) fs (omega arith)) ∙ take_more fs (length fs - 1) 0 (omega arith)

-- the page on top off one guest's pile
top_off : (s t : ℕ → Pile) (g : ℕ) (r : Result ℕ Refusal) → (is_guest g ≡ false → s g ≡ no_pile) → r ≡ chosen_by pile_answer s g → t ≡ left_by pile_after s g
    → TopTaken (tops s) g r (tops t)
top_off s t g (Ok p) w a e =
    let n : 0 < length (s g).free = search rules in
    let q : p ≡ get_or (s g).free (length (s g).free - 1) 0 = search rules in
    let c = last_off (s g).free n in
    let b = ap (λ (z : ℕ → Pile). (z g).free) e in
    fun_ext (λ h. let d = ap (λ (z : ℕ → Pile). (z h).free) e in search rules)
top_off s t g (Err m) w a e =
    let n : length (s g).free ≡ 0 = ⊎_elim (λ o. search rules) (λ o. let x = ap (λ (z : Pile). length z.free) (w o) in search rules) (cases_Bool (is_guest g)) in
    let c = take_all (length (s g).free - 1) (s g).free (omega arith) in
    fun_ext (λ h. let d = ap (λ (z : ℕ → Pile). (z h).free) e in search rules)

module _ (k l : Keeper PageStack) where
  pub stack_emptied : orders_of no_pile pile_of l ≡ (λ _. no_pile) → stack_of l ≡ (λ _. [])
  stack_emptied e = ap tops e

  pub stack_enrolled : (r : Result (Unit {0}) Refusal) (g p : ℕ) → orders_of no_pile pile_of l ≡ changed_if r pile_with (orders_of no_pile pile_of k) g p
      → stack_of l ≡ pushed_if r (stack_of k) g p
  stack_enrolled r g p e = push_if (orders_of no_pile pile_of k) (orders_of no_pile pile_of l) r pile_with g p (λ o. refl) e

  pub stack_given : (r : Result (Unit {0}) Refusal) (g p : ℕ) → orders_of no_pile pile_of l ≡ changed_if r pile_freed (orders_of no_pile pile_of k) g p
      → stack_of l ≡ pushed_if r (stack_of k) g p
  stack_given r g p e = push_if (orders_of no_pile pile_of k) (orders_of no_pile pile_of l) r pile_freed g p (λ o. refl) e

  pub stack_taken : (r : Result ℕ Refusal) (g : ℕ) → r ≡ chosen_by pile_answer (orders_of no_pile pile_of k) g
      → orders_of no_pile pile_of l ≡ left_by pile_after (orders_of no_pile pile_of k) g → TopTaken (stack_of k) g r (stack_of l)
  stack_taken r g a e = top_off (orders_of no_pile pile_of k) (orders_of no_pile pile_of l) g r (λ o. cond-false (is_guest g) _ no_pile o) a e

module _ (k l : Keeper PageMarks) where
  pub rings_emptied : orders_of no_ring ring_of l ≡ (λ _. no_ring) → rings_of l ≡ (λ _. no_ring)
  rings_emptied e = e

  pub rings_enrolled : (r : Result (Unit {0}) Refusal) (g p : ℕ) → orders_of no_ring ring_of l ≡ changed_if r ring_with (orders_of no_ring ring_of k) g p
      → rings_of l ≡ enrolled_if r (rings_of k) g p
  rings_enrolled r g p e = e

  pub rings_given : (r : Result (Unit {0}) Refusal) (g p : ℕ) → orders_of no_ring ring_of l ≡ changed_if r ring_freed (orders_of no_ring ring_of k) g p
      → rings_of l ≡ freed_if r (rings_of k) g p
  rings_given r g p e = e

  pub rings_taken : (r : Result ℕ Refusal) (g : ℕ) → r ≡ chosen_by round_answer (orders_of no_ring ring_of k) g
      → orders_of no_ring ring_of l ≡ left_by round_after (orders_of no_ring ring_of k) g → (r ≡ round_chosen (rings_of k) g) × (rings_of l ≡ round_left (rings_of k) g)
  rings_taken r g a e = (a, e)
