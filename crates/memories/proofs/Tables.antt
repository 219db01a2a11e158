-- A table of listed pages: finding a page, changing its words, adding one.
use Rattle.std.proofs.Common.{◌≡◌, ℕ, zero, suc, ◌+◌, ◌<◌, true, cond, ◌||◌, eqb, List, [], ◌∷◌, ◌++◌, length, get_or, set, replicate, Some, is_some, refl, subst, sym, ap, ◌∙◌, rules}
use mathlib.Core.Path.{fun_ext}
use lib.ListN.{length-replicate}
use Rattle.std.proofs.lemmas.Bool.{cases_lt}
use Rattle.std.proofs.lemmas.List.{get_or-replicate, get_or_past}
use Rattle.std.proofs.lemmas.List.Folds.{list_any-append}
use Rattle.std.specs.List.{position_or_len}
use Rattle.platform.specs.Memories.{Mem, put, written}
use Rattle.memories.specs.declared.listed.ListedPage.{ListedPage}
use Rattle.memories.specs.Listed.{lists, words_of, found_at, listed, Catalog, blank_page, with_blanks}

-- two memories with the same pages and words are one
pub same_mem : (m n : Mem) → ((p : ℕ) → m.has p ≡ n.has p) → ((p k : ℕ) → m.word p k ≡ n.word p k) → m ≡ n
same_mem m n h w i = record { has = fun_ext h i; word = fun_ext (λ p. fun_ext (w p)) i }

-- where a listed page stands
abbrev pub place_of : List ListedPage → ℕ → ℕ
place_of xs p = position_or_len (λ x. eqb x.number p) xs

-- a page is listed exactly if it stands in the table
pub lists_found : (xs : List ListedPage) (p : ℕ) → lists xs p ≡ is_some (found_at xs p)
lists_found [] p = refl
lists_found (x ∷ xs) p = let h = lists_found xs p in search rules

-- the page at its place
pub words_place : (xs : List ListedPage) (p : ℕ) (x : ListedPage) → lists xs p ≡ true → words_of xs p ≡ (get_or xs (place_of xs p) x).words
words_place [] p x l = search rules
words_place (y ∷ xs) p x l = let h = words_place xs p x in search rules

number_place : (xs : List ListedPage) (p : ℕ) (x : ListedPage) → lists xs p ≡ true → (get_or xs (place_of xs p) x).number ≡ p
number_place [] p x l = search rules
number_place (y ∷ xs) p x l = let h = number_place xs p x in search rules

-- a page that stands at i is listed
pub found_place : (xs : List ListedPage) (p i : ℕ) → found_at xs p ≡ Some i → (lists xs p ≡ true) × (i ≡ place_of xs p)
found_place xs p i e = let h = lists_found xs p in search rules

-- the words of a page that stands at i
pub found_words : (xs : List ListedPage) (p i : ℕ) (x : ListedPage) → found_at xs p ≡ Some i → words_of xs p ≡ (get_or xs i x).words
found_words xs p i x e =
    let f = found_place xs p i e in
    words_place xs p x f.0 ∙ ap (λ k. (get_or xs k x).words) (sym f.1)

-- a page of the table with other words
lists_set : (xs : List ListedPage) (p q : ℕ) (y : ListedPage) → y.number ≡ p → lists xs p ≡ true
    → lists (set xs (place_of xs p) y) q ≡ lists xs q
lists_set [] p q y e l = search rules
lists_set (x ∷ xs) p q y e l = let h = lists_set xs p q y e in search rules

words_set : (xs : List ListedPage) (p q : ℕ) (y : ListedPage) → y.number ≡ p → lists xs p ≡ true
    → words_of (set xs (place_of xs p) y) q ≡ cond (eqb q p) y.words (words_of xs q)
words_set [] p q y e l = search rules
words_set (x ∷ xs) p q y e l = let h = words_set xs p q y e in search rules

-- the same of the memory that the table is
listed_set : (xs : List ListedPage) (p k w : ℕ) (y : ListedPage) → lists xs p ≡ true → y.number ≡ p
    → y.words ≡ set (words_of xs p) k w → k < length (words_of xs p) → listed (set xs (place_of xs p) y) ≡ put (listed xs) p k w
listed_set xs p k w y l n o b =
    same_mem (listed (set xs (place_of xs p) y)) (put (listed xs) p k w)
    (λ q. lists_set xs p q y n l)
    (λ q j. let s = words_set xs p q y n l in search rules)

-- a word written at place k of a page that stands at i
pub listed_written : (xs : List ListedPage) (p k w i : ℕ) (x : ListedPage) → found_at xs p ≡ Some i → k < 1024 → k < length (get_or xs i x).words
    → listed (set xs i (record { number = (get_or xs i x).number; words = set (get_or xs i x).words k w })) ≡ written (listed xs) p k w
listed_written xs p k w i x e l b =
    let f = found_place xs p i e in
    let o = found_words xs p i x e in
    let n : (get_or xs i x).number ≡ p = ap (λ j. (get_or xs j x).number) f.1 ∙ number_place xs p x f.0 in
    let y : ListedPage = record { number = (get_or xs i x).number; words = set (get_or xs i x).words k w } in
    let h = ap (λ j. listed (set xs j y)) f.1
    ∙ listed_set xs p k w y f.0 n (ap (λ ws. set ws k w) (sym o)) (subst (λ (ws : List ℕ). k < length ws) (sym o) b) in
    search rules

-- what finding a page, reading it and writing to it rest on
pub ruleset tables = (lists_found, found_words, listed_written)

-- one page more
words_more : (xs : List ListedPage) (q : ℕ) (y : ListedPage)
    → words_of (xs ++ y ∷ []) q ≡ cond (lists xs q) (words_of xs q) (cond (eqb y.number q) y.words [])
words_more [] q y = search rules
words_more (x ∷ xs) q y = let h = words_more xs q y in search rules

-- every place of a list of zeros, and past its end, has 0
zeros_at : (n k : ℕ) → ◌≡◌ {A = ℕ} (get_or (replicate n 0) k 0) 0
zeros_at n k = search (rules, get_or-replicate, get_or_past, length-replicate, cases_lt k n)

-- one blank page more
pub listed_blank : (xs : List ListedPage) (x : ListedPage) (p : ℕ) → x ≡ blank_page p
    → listed (xs ++ x ∷ []) ≡ record { has = λ q. eqb p q || lists xs q; word = λ q k. cond (lists xs q) (get_or (words_of xs q) k 0) 0 }
listed_blank xs x p e =
    same_mem (listed (xs ++ x ∷ [])) (record { has = λ q. eqb p q || lists xs q; word = λ q k. cond (lists xs q) (get_or (words_of xs q) k 0) 0 })
    (λ q. let h = list_any-append (λ y. eqb y.number q) xs (x ∷ []) in search rules)
    (λ q k. let h = words_more xs q x in let z = zeros_at 1024 k in search rules)

-- how many pages there are then
pub blanks_count : (c : Catalog) (p n : ℕ) → (with_blanks c p n).count ≡ c.count + n
blanks_count c p zero = search rules
blanks_count c p (suc n) = let h = blanks_count c p n in search rules
