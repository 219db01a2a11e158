-- Lists of page numbers as sets: one number more, one number less, and how many of a list stand in another.
use Rattle.std.proofs.Common.{◌≡◌, ℕ, ◌+◌, ◌<◌, ◌≤◌, Bool, true, false, not, ◌&&◌, ◌||◌, eqb, List, [], ◌∷◌, ◌++◌, length, Some, None, Option, sym, refl, ap, ◌∙◌, arith, rules}
use Rattle.std.proofs.lemmas.List.{append-nil, length_push}
use Rattle.std.proofs.lemmas.Bool.{and_parts}
use Rattle.std.specs.Option.{option_to_list}
use Rattle.platform.specs.Lists.{member, count}
use Rattle.std.proofs.lemmas.List.Folds.{list_any-append}
use Rattle.keepers.specs.Sets.{distinct, all_in, stacked}

pub member_push : (xs : List ℕ) (y p : ℕ) → member p (xs ++ y ∷ []) ≡ (member p xs || eqb y p)
member_push xs y p = let e = list_any-append (λ x. eqb x p) xs (y ∷ []) in search rules

-- a new number more
pub distinct_push : (xs : List ℕ) (y : ℕ) → distinct xs ≡ true → member y xs ≡ false → distinct (xs ++ y ∷ []) ≡ true
distinct_push [] y d m = search rules
distinct_push (x ∷ xs) y d m = let h = distinct_push xs y in let e = member_push xs y x in search rules

-- the last number less
pub distinct_front : (xs : List ℕ) (y : ℕ) → distinct (xs ++ y ∷ []) ≡ true → (distinct xs ≡ true) × (member y xs ≡ false)
distinct_front [] y d = (refl, refl)
distinct_front (x ∷ xs) y d =
    let p = and_parts (not (member x (xs ++ y ∷ []))) (distinct (xs ++ y ∷ [])) d in
    let h = distinct_front xs y p.1 in
    let a = h.0 in
    let b = h.1 in
    let q = p.0 in
    let e = member_push xs y x in
    (search rules, search rules)

all_in_push : (xs : List ℕ) (y : ℕ) (ps : List ℕ) → all_in (xs ++ y ∷ []) ps ≡ (all_in xs ps && member y ps)
all_in_push [] y ps = search rules
all_in_push (x ∷ xs) y ps = let h = all_in_push xs y ps in search rules

-- a longer list has all that a shorter one has
all_in_more : (xs ps : List ℕ) (y : ℕ) → all_in xs ps ≡ true → all_in xs (ps ++ y ∷ []) ≡ true
all_in_more [] ps y a = refl
all_in_more (x ∷ xs) ps y a = let h = all_in_more xs ps y in let e = member_push ps y x in search rules

pub in_all : (xs ps : List ℕ) (p : ℕ) → all_in xs ps ≡ true → member p xs ≡ true → member p ps ≡ true
in_all [] ps p a m = search rules
in_all (x ∷ xs) ps p a m = let h = in_all xs ps p in search rules

-- how often a number stands in a list
times : ℕ → List ℕ → ℕ
times x ps = count (λ p. eqb x p) ps

times_none : (x : ℕ) (ps : List ℕ) → member x ps ≡ false → times x ps ≡ 0
unfolding times
times_none x [] m = refl
times_none x (p ∷ ps) m = let h = times_none x ps in search rules

times_once : (x : ℕ) (ps : List ℕ) → distinct ps ≡ true → member x ps ≡ true → times x ps ≡ 1
unfolding times
times_once x [] d m = search rules
times_once x (p ∷ ps) d m = let h = times_once x ps in let n = times_none x ps in search rules

count_none : (ps : List ℕ) → count (λ p. false) ps ≡ 0
count_none [] = refl
count_none (p ∷ ps) = count_none ps

count_more : (x : ℕ) (fs ps : List ℕ) → member x fs ≡ false → count (λ p. member p (x ∷ fs)) ps ≡ times x ps + count (λ p. member p fs) ps
unfolding times
count_more x fs [] m = refl
count_more x fs (p ∷ ps) m = let h = count_more x fs ps m in search rules

-- a set within another is counted there whole
count_all : (fs ps : List ℕ) → distinct fs ≡ true → all_in fs ps ≡ true → distinct ps ≡ true → count (λ p. member p fs) ps ≡ length fs
count_all [] ps f a d = count_none ps
count_all (x ∷ fs) ps f a d =
    let h = count_all fs ps in
    let m = count_more x fs ps in
    let o = times_once x ps d in
    search rules

pub count_most : {A : Type 0} (f : A → Bool) (xs : List A) → count f xs ≤ length xs
count_most f [] = search rules
count_most f (x ∷ xs) = let h = count_most f xs in search rules

-- one that passes is counted
pub count_some : (f : ℕ → Bool) (ps : List ℕ) (p : ℕ) → member p ps ≡ true → f p ≡ true → 0 < count f ps
count_some f [] p m e = search rules
count_some f (x ∷ ps) p m e = let h = count_some f ps p in search rules

pub record Stacked (ps fs : List ℕ) : Type 0 where
  pub pages : distinct ps ≡ true
  pub free : distinct fs ≡ true
  pub within : all_in fs ps ≡ true

pub stacked_parts : (ps fs : List ℕ) → stacked ps fs ≡ true → Stacked ps fs
stacked_parts ps fs s = record { pages = search rules; free = search rules; within = search rules }

stacked_from : (ps fs : List ℕ) → Stacked ps fs → stacked ps fs ≡ true
stacked_from ps fs s = search rules

pub stacked_count : (ps fs : List ℕ) → stacked ps fs ≡ true → count (λ p. member p fs) ps ≡ length fs
stacked_count ps fs s = let t = stacked_parts ps fs s in count_all fs ps t.free t.within t.pages

-- there are at most as many free pages as pages
pub stacked_most : (ps fs : List ℕ) → stacked ps fs ≡ true → length fs ≤ length ps
stacked_most ps fs s = let c = stacked_count ps fs s in let m = count_most (λ p. member p fs) ps in search rules

stacked_none : (ps fs : List ℕ) (p : ℕ) → stacked ps fs ≡ true → member p ps ≡ false → member p fs ≡ false
stacked_none ps fs p s m = let t = stacked_parts ps fs s in let i = in_all fs ps p t.within in search rules

-- a new page, free
pub stacked_add : (ps fs : List ℕ) (p : ℕ) → stacked ps fs ≡ true → member p ps ≡ false → stacked (ps ++ p ∷ []) (fs ++ p ∷ []) ≡ true
stacked_add ps fs p s m =
    let t = stacked_parts ps fs s in
    let w = all_in_more fs ps p t.within in
    let i = all_in_push fs p (ps ++ p ∷ []) in
    let e = member_push ps p p in
    stacked_from (ps ++ p ∷ []) (fs ++ p ∷ [])
    (record { pages = distinct_push ps p t.pages m; free = distinct_push fs p t.free (stacked_none ps fs p s m); within = search rules })

-- a page freed
pub stacked_give : (ps fs : List ℕ) (p : ℕ) → stacked ps fs ≡ true → true ≡ member p ps → false ≡ member p fs → stacked ps (fs ++ p ∷ []) ≡ true
stacked_give ps fs p s m n =
    let t = stacked_parts ps fs s in
    let w = t.within in
    let i = all_in_push fs p ps in
    stacked_from ps (fs ++ p ∷ []) (record { pages = t.pages; free = distinct_push fs p t.free (sym n); within = search rules })

-- there is room for a page that is not free
pub stacked_room : (ps fs : List ℕ) (p : ℕ) → stacked ps fs ≡ true → member p ps ≡ true → member p fs ≡ false → length fs < length ps
stacked_room ps fs p s m n =
    let t = stacked_most ps (fs ++ p ∷ []) (stacked_give ps fs p s (sym m) (sym n)) in
    let e = length_push fs p in
    omega arith

-- the last free page taken
stacked_take : (ps fs : List ℕ) (p : ℕ) → stacked ps (fs ++ p ∷ []) ≡ true → stacked ps fs ≡ true
stacked_take ps fs p s =
    let t = stacked_parts ps (fs ++ p ∷ []) s in
    let w = t.within in
    let i = all_in_push fs p ps in
    stacked_from ps fs (record { pages = t.pages; free = (distinct_front fs p t.free).0; within = search rules })

pub stacked_pop : (ps fs fs' : List ℕ) (o : Option ℕ) → stacked ps fs ≡ true → fs ≡ fs' ++ option_to_list o → stacked ps fs' ≡ true
stacked_pop ps fs fs' None s e = ap (stacked ps) (sym (e ∙ append-nil fs')) ∙ s
stacked_pop ps fs fs' (Some p) s e = stacked_take ps fs' p (ap (stacked ps) (sym e) ∙ s)
