-- Tidy grants and pools: what keeps them so, and the laws of a book that follow.
use Rattle.std.proofs.Common.{rules, sym, ◌∙◌, ⊎_elim}
use Rattle.std.specs.Prelude.{◌≡◌, ℕ, zero, suc, ◌≤◌, true, false, List, [], ◌∷◌, ◌++◌, Some, None, Option, ◌≢◌, slice_set, refl}
use Rattle.std.proofs.lemmas.Bool.{cases_eq, and_parts, and_from, or_parts}
use Rattle.platform.specs.declared.right.Right.TheVariants.{Nothing, Write}
use Rattle.platform.specs.declared.span.Span.{Span}
use Rattle.platform.specs.Guests.{is_guest}
use Rattle.std.specs.List.{list_any}
use Rattle.platform.specs.Spans.{fits_book, covers, overlaps}
use Rattle.std.proofs.lemmas.List.Folds.{list_any-append}
use Rattle.platform.proofs.Rights.{greater_write}
use Rattle.books.specs.declared.grant.Grant.{Grant}
use Rattle.books.specs.Intervals.{gives, granted, pool_covers, pool_at, clashes, any_clash, over_grant, over_pool, pools_fit, grants_fit, tidy}

-- one grant more
clash_sym : (x y : Grant) → clashes x y ≡ clashes y x
clash_sym x y = search rules

-- what a tidy list says of its first grant and of the others
record Fits (x : Grant) (xs : List Grant) (os : List (Option Span)) : Type 0 where
  guest : is_guest x.guest ≡ true
  span : fits_book x.span ≡ true
  alone : any_clash xs x ≡ false
  clear : over_pool os x.span ≡ false
  rest : grants_fit xs os ≡ true

first_fits : (x : Grant) (xs : List Grant) (os : List (Option Span)) → grants_fit (x ∷ xs) os ≡ true → Fits x xs os
first_fits x xs os t = record { guest = search rules; span = search rules; alone = search rules; clear = search rules; rest = search rules }

fits_first : (x : Grant) (xs : List Grant) (os : List (Option Span)) → Fits x xs os → grants_fit (x ∷ xs) os ≡ true
fits_first x xs os f = search rules

pub grants_push : (xs : List Grant) (os : List (Option Span)) (y : Grant) → grants_fit xs os ≡ true
    → is_guest y.guest ≡ true → fits_book y.span ≡ true → any_clash xs y ≡ false → over_pool os y.span ≡ false
    → grants_fit (xs ++ y ∷ []) os ≡ true
grants_push [] os y t g s a c = fits_first y [] os (record { guest = g; span = s; alone = refl; clear = c; rest = refl })
grants_push (x ∷ xs) os y t g s a c =
    let f = first_fits x xs os t in
    let b = or_parts (clashes x y) (any_clash xs y) a in
    let n = list_any-append (λ z. clashes z x) xs (y ∷ []) in
    let m : any_clash (xs ++ y ∷ []) x ≡ false = let e = f.alone in let d = clash_sym y x ∙ b.0 in search rules in
    fits_first x (xs ++ y ∷ []) os (record { guest = f.guest; span = f.span; alone = m; clear = f.clear; rest = grants_push xs os y f.rest g s b.1 c })

-- one pool more
pools_set : (os : List (Option Span)) (i : ℕ) (s : Span) → pools_fit os ≡ true → fits_book s ≡ true → pools_fit (slice_set os i (Some s)) ≡ true
pools_set [] i s t f = t
pools_set (None ∷ os) zero s t f = search rules
pools_set (Some r ∷ os) zero s t f = search rules
pools_set (None ∷ os) (suc i) s t f = pools_set os i s t f
pools_set (Some r ∷ os) (suc i) s t f = let h = pools_set os i s in search rules

over_set : (os : List (Option Span)) (i : ℕ) (s t : Span) → over_pool os t ≡ false → overlaps s t ≡ false → over_pool (slice_set os i (Some s)) t ≡ false
over_set [] i s t a b = a
over_set (o ∷ os) zero s t a b = search rules
over_set (o ∷ os) (suc i) s t a b = let h = over_set os i s t in search rules

grants_set : (xs : List Grant) (os : List (Option Span)) (i : ℕ) (s : Span) → grants_fit xs os ≡ true → over_grant xs s ≡ false
    → grants_fit xs (slice_set os i (Some s)) ≡ true
grants_set [] os i s t a = refl
grants_set (x ∷ xs) os i s t a =
    let f = first_fits x xs os t in
    let b = or_parts (overlaps x.span s) (over_grant xs s) a in
    let o : overlaps s x.span ≡ false = let e = b.0 in search rules in
    fits_first x xs (slice_set os i (Some s)) (record { guest = f.guest; span = f.span; alone = f.alone; clear = over_set os i s x.span f.clear o; rest = grants_set xs os i s f.rest b.1 })

pub tidy_grant : (xs : List Grant) (os : List (Option Span)) (y : Grant) → tidy xs os ≡ true
    → is_guest y.guest ≡ true → fits_book y.span ≡ true → any_clash xs y ≡ false → over_pool os y.span ≡ false
    → tidy (xs ++ y ∷ []) os ≡ true
tidy_grant xs os y t g s a c =
    let p = and_parts (pools_fit os) (grants_fit xs os) t in
    and_from (pools_fit os) (grants_fit (xs ++ y ∷ []) os) p.0 (grants_push xs os y p.1 g s a c)

pub tidy_pool : (xs : List Grant) (os : List (Option Span)) (i : ℕ) (s : Span) → tidy xs os ≡ true → fits_book s ≡ true → over_grant xs s ≡ false
    → tidy xs (slice_set os i (Some s)) ≡ true
tidy_pool xs os i s t f a =
    let p = and_parts (pools_fit os) (grants_fit xs os) t in
    and_from (pools_fit (slice_set os i (Some s))) (grants_fit xs (slice_set os i (Some s))) (pools_set os i s p.0 f) (grants_set xs os i s p.1 a)

-- grants that do not reach a guest and a page give nothing
far_grants : (xs : List Grant) (os : List (Option Span)) (g p : ℕ) → grants_fit xs os ≡ true → 65536 ≤ p → granted xs g p ≡ Nothing
far_grants [] os g p t l = refl
far_grants (x ∷ xs) os g p t l =
    let f = first_fits x xs os t in
    let n : gives x g p ≡ Nothing = let s = f.span in search rules in
    let h = far_grants xs os g p f.rest l in
    search rules

far_pools : (os : List (Option Span)) (p : ℕ) → pools_fit os ≡ true → 65536 ≤ p → list_any (λ o. pool_covers o p) os ≡ false
far_pools [] p t l = refl
far_pools (None ∷ os) p t l = far_pools os p t l
far_pools (Some s ∷ os) p t l = let h = far_pools os p in search rules

-- a page in no pool names no guest
in_no_pool : (os : List (Option Span)) (p : ℕ) → list_any (λ o. pool_covers o p) os ≡ false → pool_at os p ≡ None
in_no_pool [] p e = refl
in_no_pool (o ∷ os) p e = let h = in_no_pool os p in search rules

pub far : (xs : List Grant) (os : List (Option Span)) (g p : ℕ) → tidy xs os ≡ true → 65536 ≤ p
    → (granted xs g p ≡ Nothing) × (pool_at os p ≡ None)
far xs os g p t l =
    let f = and_parts (pools_fit os) (grants_fit xs os) t in
    (far_grants xs os g p f.1 l, in_no_pool os p (far_pools os p f.0 l))

strangers_from : (xs : List Grant) (os : List (Option Span)) (g p : ℕ) → grants_fit xs os ≡ true → is_guest g ≡ false → granted xs g p ≡ Nothing
strangers_from [] os g p t o = refl
strangers_from (x ∷ xs) os g p t o =
    let f = first_fits x xs os t in
    let n : gives x g p ≡ Nothing = let s = f.guest in search rules in
    let h = strangers_from xs os g p f.rest o in
    search rules

pub strangers : (xs : List Grant) (os : List (Option Span)) (g p : ℕ) → tidy xs os ≡ true → is_guest g ≡ false → granted xs g p ≡ Nothing
strangers xs os g p t o = strangers_from xs os g p (and_parts (pools_fit os) (grants_fit xs os) t).1 o

-- a page that is in a pool
meet : (s t : Span) (p : ℕ) → covers s p ≡ true → covers t p ≡ true → overlaps s t ≡ true
meet s t p a b = search rules

clear_of : (os : List (Option Span)) (s : Span) (p : ℕ) → over_pool os s ≡ false → list_any (λ o. pool_covers o p) os ≡ true → covers s p ≡ false
clear_of [] s p a b = search rules
clear_of (None ∷ os) s p a b = clear_of os s p a b
clear_of (Some t ∷ os) s p a b =
    let d = or_parts (overlaps t s) (over_pool os s) a in
    let h = clear_of os s p d.1 in
    let m = meet t s p in
    let n = d.0 in
    search rules

pool_grants : (xs : List Grant) (os : List (Option Span)) (g p : ℕ) → grants_fit xs os ≡ true → list_any (λ o. pool_covers o p) os ≡ true
    → granted xs g p ≡ Nothing
pool_grants [] os g p t a = refl
pool_grants (x ∷ xs) os g p t a =
    let f = first_fits x xs os t in
    let c = clear_of os x.span p f.clear a in
    let n : gives x g p ≡ Nothing = search rules in
    let h = pool_grants xs os g p f.rest a in
    search rules

pub pools : (xs : List Grant) (os : List (Option Span)) (g p : ℕ) → tidy xs os ≡ true → (pool_at os p ≢ None) → granted xs g p ≡ Nothing
pools xs os g p t n =
    let f = and_parts (pools_fit os) (grants_fit xs os) t in
    elim (list_any (λ o. pool_covers o p) os) as (λ v. list_any (λ o. pool_covers o p) os ≡ v → granted xs g p ≡ Nothing)
    [ true ↦ (λ e. pool_grants xs os g p f.1 e) | false ↦ (λ e. absurd (n (in_no_pool os p e))) ] refl

-- at most one guest may write a page
record Writes (x : Grant) (g p : ℕ) : Type 0 where
  by : x.guest ≡ g
  there : covers x.span p ≡ true
  right : x.right ≡ Write

gives_write : (x : Grant) (g p : ℕ) → gives x g p ≡ Write → Writes x g p
gives_write x g p e = record { by = search rules; there = search rules; right = search rules }

clash_yes : (x y : Grant) (p : ℕ) → covers x.span p ≡ true → covers y.span p ≡ true → x.right ≡ Write → y.right ≡ Write
    → (x.guest ≢ y.guest) → clashes x y ≡ true
clash_yes x y p a b c d n = let m = meet x.span y.span p a b in search rules

writer : (xs : List Grant) (x : Grant) (h p : ℕ) → any_clash xs x ≡ false → x.right ≡ Write → covers x.span p ≡ true
    → granted xs h p ≡ Write → h ≡ x.guest
writer [] x h p c w v e = search rules
writer (z ∷ xs) x h p c w v e =
    let d = or_parts (clashes z x) (any_clash xs x) c in
    ⊎_elim
    (λ a. let i = gives_write z h p a in
    ⊎_elim (λ s. sym i.by ∙ s)
    (λ n. let y = clash_yes z x p i.there v i.right w n in let k = d.0 in search rules)
    (cases_eq z.guest x.guest))
    (λ b. writer xs x h p d.1 w v b)
    (greater_write (gives z h p) (granted xs h p) e)

one_from : (xs : List Grant) (os : List (Option Span)) (g h p : ℕ) → grants_fit xs os ≡ true → granted xs g p ≡ Write → granted xs h p ≡ Write → g ≡ h
one_from [] os g h p t a b = search rules
one_from (x ∷ xs) os g h p t a b =
    let f = first_fits x xs os t in
    ⊎_elim
    (λ u. let i = gives_write x g p u in
    ⊎_elim (λ v. sym i.by ∙ (gives_write x h p v).by)
    (λ v. sym i.by ∙ sym (writer xs x h p f.alone i.right i.there v))
    (greater_write (gives x h p) (granted xs h p) b))
    (λ u. ⊎_elim (λ v. let j = gives_write x h p v in writer xs x g p f.alone j.right j.there u ∙ j.by)
    (λ v. one_from xs os g h p f.rest u v)
    (greater_write (gives x h p) (granted xs h p) b))
    (greater_write (gives x g p) (granted xs g p) a)

pub one_writer : (xs : List Grant) (os : List (Option Span)) (g h p : ℕ) → tidy xs os ≡ true → granted xs g p ≡ Write → granted xs h p ≡ Write → g ≡ h
one_writer xs os g h p t a b = one_from xs os g h p (and_parts (pools_fit os) (grants_fit xs os) t).1 a b
