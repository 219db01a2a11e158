-- Every call keeps the holdings lawful, and an exchange is refused only with its page.
use Rattle.std.proofs.Common.{◌≡◌, ℕ, zero, suc, ◌+◌, ◌-◌, ◌<◌, ◌≤◌, Bool, true, false, eqb, ◌⊎◌, [], ◌∷◌, ◌++◌, length, is_ok, Ok, Err, Result, sym, refl, ap, ◌∙◌, subst, inl, inr, ⊎_elim, arith, rules}
use Rattle.std.proofs.lemmas.List.{length_push}
use Rattle.std.proofs.lemmas.Bool.{cond-true, cond_both, cases_Bool, cases_eq, or_parts}
use Rattle.platform.specs.declared.refusal.Refusal.{Refusal}
use Rattle.platform.specs.Guests.{is_guest}
use Rattle.platform.specs.Keepers.{Keep, emptied, is_enrolled, with_page, marked, enrol_answer, enrol_after, give_answer, give_after, Taken}
use Rattle.platform.specs.Lists.{any_below, member}
use Rattle.keepers.specs.Laws.{Lawful, StayLawful, Exchanged}
use Rattle.keepers.specs.Sets.{distinct}
use Rattle.keepers.proofs.Sets.{member_push, distinct_push, count_some}

-- no page at all
lawful_empty : Lawful emptied
lawful_empty =
    record {
      once = λ g. refl;
      few = λ g. search rules;
      apart = λ g h p a b. search rules;
      strangers = λ g o. refl;
      enrolled = λ g p f. search rules;
    }

-- where no number passes, none below n does
below_not : (f : ℕ → Bool) (i n : ℕ) → any_below f n ≡ false → i < n → f i ≡ false
below_not f i zero a l = search rules
below_not f i (suc n) a l =
    let o = or_parts (f n) (any_below f n) a in
    ⊎_elim (λ e. ap f e ∙ o.0) (λ e. below_not f i n o.1 (omega arith)) (cases_eq i n)

-- a page that is not enrolled, no number has
nobody : (k : Keep) (p h : ℕ) → Lawful k → is_enrolled k p ≡ false → member p (k.pages h) ≡ false
nobody k p h w a =
    ⊎_elim
    (λ o. let q : h - 1 + 1 ≡ h = search rules in
    ap (λ (j : ℕ). member p (k.pages j)) (sym q) ∙ below_not (λ i. member p (k.pages (i + 1))) (h - 1) 8 a (search rules))
    (λ o. ap (member p) (w.strangers h o))
    (cases_Bool (is_guest h))

-- one page more
module _ (k : Keep) (g p : ℕ) (w : Lawful k) (o : is_guest g ≡ true) (n : is_enrolled k p ≡ false) (l : length (k.pages g) < 64) where
  more_once : (h : ℕ) → distinct ((with_page k g p).pages h) ≡ true
  more_once h =
      cond_both (eqb h g) (k.pages g ++ p ∷ []) (k.pages h) (λ ps. distinct ps ≡ true)
      (λ e. distinct_push (k.pages g) p (w.once g) (nobody k p g w n)) (λ e. w.once h)

  more_few : (h : ℕ) → length ((with_page k g p).pages h) ≤ 64
  more_few h =
      cond_both (eqb h g) (k.pages g ++ p ∷ []) (k.pages h) (λ ps. length ps ≤ 64)
      (λ e. let s = length_push (k.pages g) p in omega arith) (λ e. w.few h)

  more_has : (h q : ℕ) → member q ((with_page k g p).pages h) ≡ true → ((h ≡ g) × (q ≡ p)) ⊎ (member q (k.pages h) ≡ true)
  more_has h q m =
      let v = member_push (k.pages g) p q in
      ⊎_elim
      (λ e. ⊎_elim (λ f. inl (e, f)) (λ f. inr (let z = ap (λ (j : ℕ). member q (k.pages j)) e in search rules)) (cases_eq q p))
      (λ e. inr (search rules))
      (cases_eq h g)

  more_enrolled : (h q : ℕ) → (with_page k g p).free h q ≡ true → member q ((with_page k g p).pages h) ≡ true
  more_enrolled h q f =
      let v = member_push (k.pages g) p q in
      let s = w.enrolled h q in
      ⊎_elim (λ e. let z = ap (λ (j : ℕ). member q (k.pages j)) e in search rules) (λ e. search rules) (cases_eq h g)

  more_apart : (a b q : ℕ) → member q ((with_page k g p).pages a) ≡ true → member q ((with_page k g p).pages b) ≡ true → a ≡ b
  more_apart a b q c d =
      let na = nobody k p a w n in
      let nb = nobody k p b w n in
      let s = w.apart a b q in
      ⊎_elim
      (λ x. ⊎_elim (λ y. x.0 ∙ sym y.0) (λ y. let z = ap (λ (r : ℕ). member r (k.pages b)) (sym x.1) in search rules) (more_has b q d))
      (λ x. ⊎_elim (λ y. let z = ap (λ (r : ℕ). member r (k.pages a)) (sym y.1) in search rules) (λ y. s x y) (more_has b q d))
      (more_has a q c)

  lawful_more : Lawful (with_page k g p)
  lawful_more =
      record {
        once = more_once;
        few = more_few;
        apart = more_apart;
        strangers = λ h u. let s = w.strangers h u in search rules;
        enrolled = more_enrolled;
      }

lawful_enrol : (k : Keep) (g p : ℕ) → Lawful k → Lawful (enrol_after k g p)
lawful_enrol k g p w =
    cond_both (is_ok (enrol_answer k g p)) (with_page k g p) k Lawful
    (λ e. let o : is_guest g ≡ true = search rules in
    let n : is_enrolled k p ≡ false = search rules in
    lawful_more k g p w o n (search rules))
    (λ e. w)

-- the same pages, one of them free or not
lawful_marked : (k : Keep) (g p : ℕ) (b : Bool) → Lawful k → member p (k.pages g) ≡ true → Lawful (marked k g p b)
lawful_marked k g p b w m =
    record {
      once = w.once;
      few = w.few;
      apart = w.apart;
      strangers = w.strangers;
      enrolled = λ h q f.
          let s = w.enrolled h q in
          ⊎_elim
          (λ e. let z = ap (λ (j : ℕ). member q (k.pages j)) e in
          ⊎_elim (λ u. let y = ap (λ (j : ℕ). member j (k.pages g)) u in search rules) (λ u. search rules) (cases_eq q p))
          (λ e. search rules)
          (cases_eq h g);
    }

lawful_give : (k : Keep) (g p : ℕ) → Lawful k → Lawful (give_after k g p)
lawful_give k g p w =
    cond_both (is_ok (give_answer k g p)) (marked k g p true) k Lawful (λ e. lawful_marked k g p true w (search rules)) (λ e. w)

lawful_take : (k after : Keep) (g : ℕ) (r : Result ℕ Refusal) → Lawful k → Taken k g r after → Lawful after
lawful_take k after g (Ok p) w t = subst Lawful (sym t.3) (lawful_marked k g p false w t.1)
lawful_take k after g (Err e) w t = subst Lawful (sym t.1) w

pub stay_lawful : StayLawful
stay_lawful = record { empty = lawful_empty; enrol = lawful_enrol; give = lawful_give; take = lawful_take }

-- what was given can be taken
taken_back : (k after : Keep) (g p : ℕ) (r : Result ℕ Refusal) → give_answer k g p ≡ Ok tt → Taken (marked k g p true) g r after
    → Exchanged k g p r after × (is_ok r ≡ true)
taken_back k after g p (Ok q) a t = ((a, t.1, t.2, t.3), refl)
taken_back k after g p (Err e) a t =
    let m : member p (k.pages g) ≡ true = search rules in
    let c = count_some ((marked k g p true).free g) (k.pages g) p m (search rules) in
    let z = t.0 in
    absurd (search rules)

module _ (k l after : Keep) (g p : ℕ) (r : Result ℕ Refusal) (t : Taken l g r after) (a : Ok tt ≡ give_answer k g p) (e : l ≡ give_after k g p) where
  both : Exchanged k g p r after × (is_ok r ≡ true)
  both =
      let u : l ≡ marked k g p true = e ∙ cond-true (is_ok (give_answer k g p)) (marked k g p true) k (ap is_ok (sym a)) in
      taken_back k after g p r (sym a) (subst (λ (x : Keep). Taken x g r after) u t)

  pub exchanged : Exchanged k g p r after
  exchanged = both.0

  pub serves : is_ok r ≡ true
  serves = both.1
