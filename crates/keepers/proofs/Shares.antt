-- What all guests have together after one guest's share has changed.
use Rattle.std.proofs.Common.{◌≡◌, ℕ, zero, suc, ◌+◌, ◌<◌, Bool, true, false, cond, ◌||◌, leb, List, [], ◌∷◌, length, get_or, set, is_ok, Ok, Err, Result, sym, refl, ap, ◌∙◌, subst, ⊎_elim, arith, rules}
use mathlib.Core.Path.{fun_ext}
use Rattle.std.proofs.lemmas.Bool.{cond-true, cond-false, cases_Bool, or_left, or_parts}
use Rattle.platform.specs.declared.refusal.Refusal.{Refusal}
use Rattle.platform.specs.declared.refusal.Refusal.TheVariants.{GuestOutOfRange, KeeperRefuses}
use Rattle.platform.specs.Guests.{is_guest}
use Rattle.platform.specs.Keepers.{Keep, emptied, is_enrolled, with_page, marked, enrol_answer, enrol_after, give_answer, give_after, free_count, Taken}
use Rattle.std.specs.List.{list_any}
use Rattle.platform.specs.Lists.{any_below, member, count}
use Rattle.keepers.specs.Shares.{Share, no_share, value_at, by_guest, changed, keep_of, share_with, share_marked, share_enrol_answer, share_enrol_after, share_give_answer, share_give_after, ShareTaken}
use Rattle.keepers.proofs.Sets.{count_some}
use Rattle.keepers.proofs.Values.{Placed, Plain, guest_read, guest_set, changed_same, plain_all, plain_map}

-- equal part by part
same_keep : (k l : Keep) → ((g : ℕ) → k.pages g ≡ l.pages g) → ((g p : ℕ) → k.free g p ≡ l.free g p) → k ≡ l
same_keep k l a b i = record { pages = fun_ext a i; free = fun_ext (λ g. fun_ext (b g)) i }

-- some number below n passes, or some item does
below_front : (h : ℕ → Bool) (n : ℕ) → any_below h (suc n) ≡ (h 0 || any_below (λ i. h (suc i)) n)
below_front h zero = search rules
below_front h (suc n) = let e = below_front h n in search rules

below_same : (a b : ℕ → Bool) (n : ℕ) → ((i : ℕ) → i < n → a i ≡ b i) → any_below a n ≡ any_below b n
below_same a b zero e = refl
below_same a b (suc n) e = let h = below_same a b n (λ i l. e i (omega arith)) in let t = e n (omega arith) in search rules

below_any : {A : Type 0} (f : A → Share) (p : ℕ) (xs : List A)
    → any_below (λ i. member p (value_at no_share f xs i).pages) (length xs) ≡ list_any (λ x. member p (f x).pages) xs
below_any f p [] = refl
below_any f p (x ∷ xs) =
    below_front (λ i. member p (value_at no_share f (x ∷ xs) i).pages) (length xs)
    ∙ ap (λ (b : Bool). member p (f x).pages || b) (below_any f p xs)

-- what one guest's new share does to what all have
keep_with : (s : ℕ → Share) (g p : ℕ) → keep_of (changed s g (share_with (s g) p)) ≡ with_page (keep_of s) g p
keep_with s g p =
    same_keep (keep_of (changed s g (share_with (s g) p))) (with_page (keep_of s) g p) (λ h. search rules) (λ h q. search rules)

keep_marked : (s : ℕ → Share) (g p : ℕ) (b : Bool) → keep_of (changed s g (share_marked (s g) p b)) ≡ marked (keep_of s) g p b
keep_marked s g p b =
    same_keep (keep_of (changed s g (share_marked (s g) p b))) (marked (keep_of s) g p b) (λ h. search rules) (λ h q. search rules)

abbrev refused_if : Bool → Result (Unit {0}) Refusal
refused_if b = cond b (Err KeeperRefuses) (Ok tt)

enrol_guest : (k : Keep) (g p : ℕ) → is_guest g ≡ true → enrol_answer k g p ≡ refused_if (is_enrolled k p || leb 64 (length (k.pages g)))
enrol_guest k g p o = cond-true (is_guest g) (refused_if (is_enrolled k p || leb 64 (length (k.pages g)))) (Err GuestOutOfRange) o

-- where no item passes, the i-th does not
pub any_not : {A : Type 0} (t : A → Bool) (xs : List A) (i : ℕ) (x : A) → list_any t xs ≡ false → i < length xs → x ≡ get_or xs i x → t x ≡ false
any_not t [] i x a l e = search rules
any_not t (y ∷ xs) zero x a l e = ap t e ∙ (or_parts (t y) (list_any t xs) a).0
any_not t (y ∷ xs) (suc i) x a l e = any_not t xs i x (or_parts (t y) (list_any t xs) a).1 (search rules) e

-- what an order's share is after a call
module _ {O : Type 0} (share : O → Share) (o t : O) (p : ℕ) (r : Result (Unit {0}) Refusal) where
  pub share_added : (o' : O) → share o' ≡ share_with (share o) p → r ≡ share_enrol_answer (share o) → t ≡ cond (is_ok r) o' o
      → share t ≡ share_enrol_after (share o) p
  share_added o' a e u =
      ⊎_elim
      (λ k. ap share (u ∙ cond-true (is_ok r) o' o k) ∙ a ∙ sym (cond-true _ _ _ (ap is_ok (sym e) ∙ k)))
      (λ k. ap share (u ∙ cond-false (is_ok r) o' o k) ∙ sym (cond-false _ _ _ (ap is_ok (sym e) ∙ k)))
      (cases_Bool (is_ok r))

  pub share_given : (o' : O) → (member p (share o).pages ≡ true → share o' ≡ share_marked (share o) p true) → r ≡ share_give_answer (share o) p
      → t ≡ cond (is_ok r) o' o → share t ≡ share_give_after (share o) p
  share_given o' a e u =
      ⊎_elim
      (λ k. let m : member p (share o).pages ≡ true = let z = ap is_ok (sym e) ∙ k in search rules in
      ap share (u ∙ cond-true (is_ok r) o' o k) ∙ a m ∙ sym (cond-true _ _ _ (ap is_ok (sym e) ∙ k)))
      (λ k. ap share (u ∙ cond-false (is_ok r) o' o k) ∙ sym (cond-false _ _ _ (ap is_ok (sym e) ∙ k)))
      (cases_Bool (is_ok r))

-- where every part has the order of no page, the keeper is empty
pub none_held : {A O : Type 0} (share : O → Share) (none : O) (order : A → O) (xs : List A) → share none ≡ no_share → Plain none order xs 8
    → keep_of (by_guest no_share (λ x. share (order x)) xs) ≡ emptied
none_held {A = A} share none order xs e p =
    let f = λ (x : A). share (order x) in
    ap keep_of (plain_all no_share f xs (subst (λ (d : Share). Plain d f xs 8) e (plain_map none order share xs 8 p)))

-- a keeper of eight parts, of which x is guest g's
module _ {A : Type 0} (f : A → Share) (xs : List A) (l : length xs ≡ 8) where
  enrolled_any : (p : ℕ) → is_enrolled (keep_of (by_guest no_share f xs)) p ≡ list_any (λ x. member p (f x).pages) xs
  enrolled_any p =
      below_same (λ i. member p (by_guest no_share f xs (i + 1)).pages) (λ i. member p (value_at no_share f xs i).pages) 8 (λ i h. search rules)
      ∙ ap (any_below (λ i. member p (value_at no_share f xs i).pages)) (sym l)
      ∙ below_any f p xs

  -- a page that some guest has
  pub kept_held : (g p : ℕ) → is_guest g ≡ true → list_any (λ z. member p (f z).pages) xs ≡ true
      → (Err KeeperRefuses ≡ enrol_answer (keep_of (by_guest no_share f xs)) g p)
      × (keep_of (by_guest no_share f xs) ≡ enrol_after (keep_of (by_guest no_share f xs)) g p)
  kept_held g p o a =
      let k = keep_of (by_guest no_share f xs) in
      let q = enrol_guest k g p o ∙ ap refused_if (or_left (is_enrolled k p) (leb 64 (length (k.pages g))) (enrolled_any p ∙ a)) in
      (sym q, sym (cond-false (is_ok (enrol_answer k g p)) (with_page k g p) k (ap is_ok q)))

  module _ (g i : ℕ) (o : Placed g i) (x : A) (e : x ≡ get_or xs i x) where
    share_is : by_guest no_share f xs g ≡ f x
    share_is = guest_read no_share f xs l g i o x e

    -- the keeper after guest g's part has become y
    kept : (y : A) (t : Share) → f y ≡ t → keep_of (by_guest no_share f (set xs i y)) ≡ keep_of (changed (by_guest no_share f xs) g t)
    kept y t a = ap keep_of (guest_set no_share f xs l g i o y) ∙ ap (λ (s : Share). keep_of (changed (by_guest no_share f xs) g s)) a

    kept_same : (y : A) → f y ≡ f x → keep_of (by_guest no_share f (set xs i y)) ≡ keep_of (by_guest no_share f xs)
    kept_same y a = kept y (f x) a ∙ ap keep_of (changed_same (by_guest no_share f xs) g (f x) (sym share_is))

    kept_with : (y : A) (p : ℕ) → f y ≡ share_with (f x) p
        → keep_of (by_guest no_share f (set xs i y)) ≡ with_page (keep_of (by_guest no_share f xs)) g p
    kept_with y p a =
        kept y (share_with (by_guest no_share f xs g) p) (a ∙ ap (λ (s : Share). share_with s p) (sym share_is))
        ∙ keep_with (by_guest no_share f xs) g p

    kept_marked : (y : A) (p : ℕ) (b : Bool) → f y ≡ share_marked (f x) p b
        → keep_of (by_guest no_share f (set xs i y)) ≡ marked (keep_of (by_guest no_share f xs)) g p b
    kept_marked y p b a =
        kept y (share_marked (by_guest no_share f xs g) p b) (a ∙ ap (λ (s : Share). share_marked s p b) (sym share_is))
        ∙ keep_marked (by_guest no_share f xs) g p b

    pub kept_count : free_count (keep_of (by_guest no_share f xs)) g ≡ count (f x).free (f x).pages
    kept_count = ap (λ (s : Share). count s.free s.pages) share_is

    pub kept_taken : (r : Result ℕ Refusal) (y : A) → ShareTaken (f x) r (f y)
        → Taken (keep_of (by_guest no_share f xs)) g r (keep_of (by_guest no_share f (set xs i y)))
    kept_taken (Ok p) y t =
        let a : member p (by_guest no_share f xs g).pages ≡ true = ap (λ (s : Share). member p s.pages) share_is ∙ t.0 in
        let b : (by_guest no_share f xs g).free p ≡ true = ap (λ (s : Share). s.free p) share_is ∙ t.1 in
        let n = count_some (by_guest no_share f xs g).free (by_guest no_share f xs g).pages p a b in
        let q = o.guest in
        (search rules, a, b, kept_marked y p false t.2)
    kept_taken (Err m) y t =
        let n = kept_count ∙ t.1 in
        let q = o.guest in
        let a = t.0 in
        (search rules, kept_same y t.2)

    pub kept_give_answer : (p : ℕ) → share_give_answer (f x) p ≡ give_answer (keep_of (by_guest no_share f xs)) g p
    kept_give_answer p = ap (λ (s : Share). share_give_answer s p) (sym share_is) ∙ sym (cond-true (is_guest g) _ _ o.guest)

    pub kept_given : (y : A) (p : ℕ) → f y ≡ share_give_after (f x) p
        → keep_of (by_guest no_share f (set xs i y)) ≡ give_after (keep_of (by_guest no_share f xs)) g p
    kept_given y p a =
        let k = keep_of (by_guest no_share f xs) in
        let q = kept_give_answer p in
        ⊎_elim
        (λ t. kept_marked y p true (a ∙ cond-true (is_ok (share_give_answer (f x) p)) _ _ t)
        ∙ sym (cond-true (is_ok (give_answer k g p)) (marked k g p true) k (ap is_ok (sym q) ∙ t)))
        (λ t. kept_same y (a ∙ cond-false (is_ok (share_give_answer (f x) p)) _ _ t)
        ∙ sym (cond-false (is_ok (give_answer k g p)) (marked k g p true) k (ap is_ok (sym q) ∙ t)))
        (cases_Bool (is_ok (share_give_answer (f x) p)))

    -- a page that no guest has yet
    pub kept_enrol_answer : (p : ℕ) → list_any (λ z. member p (f z).pages) xs ≡ false
        → share_enrol_answer (f x) ≡ enrol_answer (keep_of (by_guest no_share f xs)) g p
    kept_enrol_answer p a =
        let k = keep_of (by_guest no_share f xs) in
        ap share_enrol_answer (sym share_is)
        ∙ ap (λ (c : Bool). refused_if (c || leb 64 (length (k.pages g)))) (sym (enrolled_any p ∙ a))
        ∙ sym (enrol_guest k g p o.guest)

    pub kept_enrolled : (y : A) (p : ℕ) → list_any (λ z. member p (f z).pages) xs ≡ false → f y ≡ share_enrol_after (f x) p
        → keep_of (by_guest no_share f (set xs i y)) ≡ enrol_after (keep_of (by_guest no_share f xs)) g p
    kept_enrolled y p n a =
        let k = keep_of (by_guest no_share f xs) in
        let q = kept_enrol_answer p n in
        ⊎_elim
        (λ t. kept_with y p (a ∙ cond-true (is_ok (share_enrol_answer (f x))) _ _ t)
        ∙ sym (cond-true (is_ok (enrol_answer k g p)) (with_page k g p) k (ap is_ok (sym q) ∙ t)))
        (λ t. kept_same y (a ∙ cond-false (is_ok (share_enrol_answer (f x))) _ _ t)
        ∙ sym (cond-false (is_ok (enrol_answer k g p)) (with_page k g p) k (ap is_ok (sym q) ∙ t)))
        (cases_Bool (is_ok (share_enrol_answer (f x))))
