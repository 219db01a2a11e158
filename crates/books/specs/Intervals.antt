-- The interval book: grants and pools, what they mean, and what setting up does.
use Rattle.std.specs.Prelude.{ℕ, ◌+◌, ◌-◌, Bool, true, false, cond, not, ◌&&◌, ◌||◌, List, [], ◌∷◌, ◌++◌, length, replicate, is_some, is_ok, Some, None, Ok, Err, Option, Result, ◌==◌, nat_le, nat_lt, slice_index_or, slice_set}
use Rattle.platform.specs.declared.refusal.Refusal.{Refusal}
use Rattle.platform.specs.declared.refusal.Refusal.TheVariants.{GuestOutOfRange, AlreadySetUp, OutOfLimits, Conflict, TableFull}
use Rattle.platform.specs.declared.right.Right.{Right}
use Rattle.platform.specs.declared.right.Right.TheVariants.{Nothing, Read, Write}
use Rattle.platform.specs.declared.span.Span.{Span}
use Rattle.platform.specs.Guests.{is_guest}
use Rattle.std.specs.List.{list_any, position}
use Rattle.std.specs.Option.{option_map}
use Rattle.platform.specs.Rights.{greater}
use Rattle.platform.specs.Spans.{fits_book, covers, overlaps}
use Rattle.platform.specs.Books.{Book}
use Rattle.books.specs.declared.grant.Grant.{Grant}

-- the grants, the oldest first, and the pool of each guest, if any, guest 1 first
pub record Ledger : Type 0 where
  pub grants : List Grant
  pub pools : List (Option Span)

abbrev pub blank : Ledger
blank = record { grants = []; pools = replicate 8 None }

-- what one grant gives
abbrev pub gives : Grant → ℕ → ℕ → Right
gives x g p = cond (x.guest == g && covers x.span p) x.right Nothing

-- the greatest grant over a page counts
abbrev pub granted : List Grant → ℕ → ℕ → Right
granted [] g p = Nothing
granted (x ∷ xs) g p = greater (gives x g p) (granted xs g p)

-- whether a pool, if any, has a page
abbrev pub pool_covers : Option Span → ℕ → Bool
pool_covers None p = false
pool_covers (Some s) p = covers s p

-- the guest whose pool has a page, if any: the first such pool names it, and the first of all is guest 1's
abbrev pub pool_at : List (Option Span) → ℕ → Option ℕ
pool_at os p = option_map (λ i. i + 1) (position (λ o. pool_covers o p) os)

-- what the book means
abbrev pub book_of : Ledger → Book
book_of l = record { right = granted l.grants; pool = pool_at l.pools }

abbrev pub is_write : Right → Bool
is_write Nothing = false
is_write Read = false
is_write Write = true

abbrev pub is_nothing : Right → Bool
is_nothing Nothing = true
is_nothing Read = false
is_nothing Write = false

-- two guests would write one page
abbrev pub clashes : Grant → Grant → Bool
clashes x y = not (x.guest == y.guest) && (overlaps x.span y.span && (is_write x.right && is_write y.right))

abbrev pub any_clash : List Grant → Grant → Bool
any_clash xs y = list_any (λ x. clashes x y) xs

-- some grant lies over a span
abbrev pub over_grant : List Grant → Span → Bool
over_grant xs s = list_any (λ x. overlaps x.span s) xs

-- a pool, if any, lies over a span
abbrev pub pool_overlaps : Option Span → Span → Bool
pool_overlaps None s = false
pool_overlaps (Some t) s = overlaps t s

abbrev pub over_pool : List (Option Span) → Span → Bool
over_pool os s = list_any (λ o. pool_overlaps o s) os

-- a guest has a pool
abbrev pub has_pool : List (Option Span) → ℕ → Bool
has_pool os g = is_guest g && is_some (slice_index_or os (g - 1) None)

-- what a grant is answered: a bad guest, then bad limits, then no room, then a conflict
abbrev pub grant_answer : Ledger → Grant → Result (Unit {0}) Refusal
grant_answer l y =
    cond (is_guest y.guest)
    (cond (fits_book y.span && not (is_nothing y.right))
    (cond (nat_lt (length l.grants) 32)
    (cond (over_pool l.pools y.span || any_clash l.grants y) (Err Conflict) (Ok tt))
    (Err TableFull))
    (Err OutOfLimits))
    (Err GuestOutOfRange)

abbrev pub grant_after : Ledger → Grant → Ledger
grant_after l y = cond (is_ok (grant_answer l y)) (record { grants = l.grants ++ y ∷ []; pools = l.pools }) l

-- a pool has 2 to 64 pages
abbrev pub pool_fits : Span → Bool
pool_fits s = fits_book s && (nat_le 2 s.count && nat_le s.count 64)

-- what a pool is answered: a bad guest, then bad limits, then a second pool, then a conflict
abbrev pub pool_answer : Ledger → ℕ → Span → Result (Unit {0}) Refusal
pool_answer l g s =
    cond (is_guest g)
    (cond (pool_fits s)
    (cond (has_pool l.pools g)
    (Err AlreadySetUp)
    (cond (over_grant l.grants s || over_pool l.pools s) (Err Conflict) (Ok tt)))
    (Err OutOfLimits))
    (Err GuestOutOfRange)

abbrev pub pool_after : Ledger → ℕ → Span → Ledger
pool_after l g s = cond (is_ok (pool_answer l g s)) (record { grants = l.grants; pools = slice_set l.pools (g - 1) (Some s) }) l

-- each pool lies below page 65,536
abbrev pub pools_fit : List (Option Span) → Bool
pools_fit [] = true
pools_fit (None ∷ os) = pools_fit os
pools_fit (Some s ∷ os) = fits_book s && pools_fit os

-- each grant names a guest and lies below page 65,536, no two clash, and none lies over a pool
abbrev pub grants_fit : List Grant → List (Option Span) → Bool
grants_fit [] os = true
grants_fit (x ∷ xs) os =
    (is_guest x.guest && fits_book x.span) && ((not (any_clash xs x) && not (over_pool os x.span)) && grants_fit xs os)

-- what every interval book keeps
abbrev pub tidy : List Grant → List (Option Span) → Bool
tidy xs os = pools_fit os && grants_fit xs os
