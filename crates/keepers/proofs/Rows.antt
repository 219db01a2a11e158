-- One guest's marks: finding one, changing one, adding one, and counting the free ones.
use Rattle.std.proofs.Common.{◌≡◌, ℕ, zero, suc, ◌+◌, ◌<◌, Bool, true, false, cond, ◌&&◌, ◌||◌, eqb, nat_lt, List, [], ◌∷◌, ◌++◌, length, get_or, get_or-drop, drop, set, Some, None, sym, refl, ap, ◌∙◌, rules}
use Rattle.std.proofs.lemmas.List.Sums.{passes_at_first}
use Rattle.std.proofs.lemmas.List.Recursion.{is_count_by}
use Rattle.std.specs.List.{list_any, position_or_len, count_by}
use Rattle.platform.specs.Lists.{member, count}
use Rattle.keepers.specs.declared.mark.Mark.{Mark}
use Rattle.keepers.specs.Meanings.{pages_push, set_pages}
use Rattle.keepers.specs.Rows.{pages_of, is_free, place_of, found_at, free_from, round_place, page_at, set_free}
use Rattle.keepers.specs.Sets.{distinct}
use Rattle.keepers.proofs.Sets.{distinct_push}

pub pages_length : (ms : List Mark) → length (pages_of ms) ≡ length ms
pages_length [] = refl
pages_length (m ∷ ms) = let h = pages_length ms in search rules

-- some item passes where a first one is found
any_within : {A : Type 0} (f : A → Bool) (xs : List A) → nat_lt (position_or_len f xs) (length xs) ≡ list_any f xs
any_within f [] = refl
any_within f (x ∷ xs) = let h = any_within f xs in search rules

pages_any : (ms : List Mark) (p : ℕ) → list_any (λ m. eqb m.page p) ms ≡ member p (pages_of ms)
pages_any [] p = refl
pages_any (m ∷ ms) p = let h = pages_any ms p in search rules

pub found_within : (ms : List Mark) (p : ℕ) → nat_lt (place_of ms p) (length ms) ≡ member p (pages_of ms)
found_within ms p = any_within (λ (m : Mark). eqb m.page p) ms ∙ pages_any ms p

pub place_within : (ms : List Mark) (p : ℕ) → member p (pages_of ms) ≡ true → place_of ms p < length ms
place_within ms p e = let w = found_within ms p in search rules

pub page_place : (ms : List Mark) (p : ℕ) → member p (pages_of ms) ≡ true → page_at ms (place_of ms p) ≡ p
page_place [] p e = search rules
page_place (m ∷ ms) p e = let h = page_place ms p in search rules

free_stranger : (ms : List Mark) (p : ℕ) → member p (pages_of ms) ≡ false → is_free ms p ≡ false
free_stranger [] p e = refl
free_stranger (m ∷ ms) p e = let h = free_stranger ms p in search rules

-- the mark at a place
pub page_read : (ms : List Mark) (i : ℕ) (x : Mark) → i < length ms → x ≡ get_or ms i x → page_at ms i ≡ x.page
page_read [] i x l e = search rules
page_read (m ∷ ms) zero x l e = ap (λ (y : Mark). y.page) (sym e)
page_read (m ∷ ms) (suc i) x l e = page_read ms i x (search rules) e

pub page_within : (ms : List Mark) (i : ℕ) → i < length ms → member (page_at ms i) (pages_of ms) ≡ true
page_within [] i l = search rules
page_within (m ∷ ms) zero l = search rules
page_within (m ∷ ms) (suc i) l = let h = page_within ms i (search rules) in search rules

pub free_read : (ms : List Mark) (i : ℕ) (x : Mark) → distinct (pages_of ms) ≡ true → i < length ms → x ≡ get_or ms i x → is_free ms (page_at ms i) ≡ x.free
free_read [] i x d l e = search rules
free_read (m ∷ ms) zero x d l e =
    let n = free_stranger ms m.page in
    let f = ap (λ (y : Mark). y.free) e in
    search rules
free_read (m ∷ ms) (suc i) x d l e =
    let h = free_read ms i x (search rules) (search rules) e in
    let w = page_within ms i (search rules) in
    search rules

-- one mark changed
pub set_is : (ms : List Mark) (i : ℕ) (x : Mark) (b : Bool) → i < length ms → x ≡ get_or ms i x → set ms i (record { page = x.page; free = b }) ≡ set_free ms i b
set_is [] i x b l e = refl
set_is (m ∷ ms) zero x b l e = ap (λ (y : Mark). (record { page = y.page; free = b }) ∷ ms) e
set_is (m ∷ ms) (suc i) x b l e = ap (λ (ns : List Mark). m ∷ ns) (set_is ms i x b (search rules) e)

pub set_frees : (ms : List Mark) (i : ℕ) (b : Bool) (q : ℕ) → distinct (pages_of ms) ≡ true → i < length ms
    → is_free (set_free ms i b) q ≡ cond (eqb q (page_at ms i)) b (is_free ms q)
set_frees [] i b q d l = search rules
set_frees (m ∷ ms) zero b q d l = let n = free_stranger ms m.page in search rules
set_frees (m ∷ ms) (suc i) b q d l =
    let h = set_frees ms i b q (search rules) (search rules) in
    let w = page_within ms i (search rules) in
    search rules

pub neat_set : (ms : List Mark) (i : ℕ) (x : Mark) (b : Bool) → distinct (pages_of ms) ≡ true → i < length ms → x ≡ get_or ms i x
    → distinct (pages_of (set ms i (record { page = x.page; free = b }))) ≡ true
neat_set ms i x b d l e = ap (λ (ns : List Mark). distinct (pages_of ns)) (set_is ms i x b l e) ∙ ap distinct (set_pages ms i b) ∙ d

-- a mark of a page that has none
pub neat_push : (ms : List Mark) (p : ℕ) (b : Bool) → distinct (pages_of ms) ≡ true → member p (pages_of ms) ≡ false
    → distinct (pages_of (ms ++ (record { page = p; free = b }) ∷ [])) ≡ true
neat_push ms p b d m = ap distinct (pages_push ms (record { page = p; free = b })) ∙ distinct_push (pages_of ms) p d m

-- the mark of a page that is found
pub free_is : (ms : List Mark) (p i : ℕ) (x : Mark) → distinct (pages_of ms) ≡ true → Some i ≡ found_at ms p → x ≡ get_or ms i x → is_free ms p ≡ x.free
free_is ms p i x d e r =
    let t = found_within ms p in
    let m : member p (pages_of ms) ≡ true = search rules in
    let q : i ≡ place_of ms p = search rules in
    let w = place_within ms p m in
    ap (is_free ms) (sym (ap (page_at ms) q ∙ page_place ms p m)) ∙ free_read ms i x d (search rules) r

-- the first free mark from a place on
-- a mark past the end
abbrev past : Mark
past = record { page = 0; free = false }

free_found : (ms : List Mark) (n i : ℕ) → free_from ms n ≡ Some i → (get_or ms i past).free ≡ true
free_found ms n i e =
    let k = position_or_len (λ (m : Mark). m.free) (drop n ms) in
    let w : k < length (drop n ms) = search rules in
    let q : i ≡ n + k = search rules in
    ap (λ (j : ℕ). (get_or ms j past).free) q
    ∙ ap (λ (m : Mark). m.free) (sym (get_or-drop n ms k past))
    ∙ passes_at_first (λ (m : Mark). m.free) (drop n ms) past w

pub record FreeAt (ms : List Mark) (i : ℕ) : Type 0 where
  pub within : i < length ms
  pub free : is_free ms (page_at ms i) ≡ true

at_free : (ms : List Mark) (i : ℕ) → (get_or ms i past).free ≡ true → FreeAt ms i
at_free [] i e = record { within = search rules; free = search rules }
at_free (m ∷ ms) zero e = record { within = search rules; free = search rules }
at_free (m ∷ ms) (suc i) e =
    let h = at_free ms i e in
    let w = h.within in
    let f = h.free in
    record { within = search rules; free = search rules }

-- the place where a round ends has a free mark
pub round_free : (ms : List Mark) (n i : ℕ) → round_place ms n ≡ Some i → FreeAt ms i
round_free ms n i e = let a = free_found ms n i in let b = free_found ms 0 i in at_free ms i (search rules)

pub round_none : (ms : List Mark) (n : ℕ) → round_place ms n ≡ None → list_any (λ m. m.free) ms ≡ false
round_none ms n e = let f = free_from ms n in let h = any_within (λ (m : Mark). m.free) ms in search rules

pub count_nothing : {A : Type 0} (t : A → Bool) (xs : List A) → list_any t xs ≡ false → count t xs ≡ 0
count_nothing t [] a = refl
count_nothing t (x ∷ xs) a = let h = count_nothing t xs in search rules

count_stranger : (p : ℕ) (b : Bool) (f : ℕ → Bool) (ps : List ℕ) → member p ps ≡ false → count (λ q. (eqb p q && b) || f q) ps ≡ count f ps
count_stranger p b f [] m = refl
count_stranger p b f (q ∷ ps) m = let h = count_stranger p b f ps in search rules

-- as many pages are free as marks
pub free_pages : (ms : List Mark) → distinct (pages_of ms) ≡ true → count (is_free ms) (pages_of ms) ≡ count (λ m. m.free) ms
free_pages [] d = refl
free_pages (m ∷ ms) d =
    let h = free_pages ms in
    let n = free_stranger ms m.page in
    let s = count_stranger m.page m.free (is_free ms) (pages_of ms) in
    search rules

-- std's count counts the same
pub free_counted : (ms : List Mark) → distinct (pages_of ms) ≡ true → count_by (λ m. m.free) ms ≡ count (is_free ms) (pages_of ms)
free_counted ms d =
    sym (is_count_by (λ ns. count (λ m. m.free) ns) (λ m. m.free) refl (λ x xs. refl) ms) ∙ sym (free_pages ms d)
