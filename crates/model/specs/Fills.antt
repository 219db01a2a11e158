-- Dropping a guest's spaces, and filling its shadow tables at a fault.
use Rattle.std.specs.Prelude.{◌≡◌, ℕ, Bool, true, false, cond, ◌&&◌, ◌||◌, List, [], ◌∷◌, length, is_ok, Some, None, Ok, Err, Option, Result, ◌==◌, nat_le}
use Rattle.platform.specs.declared.refusal.Refusal.{Refusal}
use Rattle.platform.specs.Guests.{is_guest}
use Rattle.platform.specs.Keepers.{free_count, marked, take_refusal, give_answer}
use Rattle.platform.specs.Lists.{member}
use Rattle.platform.specs.Memories.{written, cleared}
use Rattle.descriptor.specs.Addresses.{first_index, second_index}
use Rattle.descriptor.specs.Entries.{table_page}
use Rattle.descriptor.specs.Shadow.{root_word}
use Rattle.model.specs.Boards.{Board, present_root, word_at, with_memory, with_keeper, with_guest, with_spaces, with_root}

-- a page of guest g that is in use is cleared and freed; a free one is clear already
abbrev pub drop_page : Board → ℕ → ℕ → Board
drop_page b g p = cond (is_ok (give_answer b.keeper g p)) (with_keeper (with_memory b (cleared b.memory p)) (marked b.keeper g p true)) b

abbrev pub drop_pages : Board → ℕ → List ℕ → Board
drop_pages b g [] = b
drop_pages b g (p ∷ ps) = drop_pages (drop_page b g p) g ps

-- guest g's table pages in use are cleared and freed, and it has no space
unfoldable pub dropped : Board → ℕ → Board
dropped b g = with_guest (drop_pages b g (b.guest g).tables) g (with_spaces (b.guest g) [])

-- guest g has no free page
abbrev pub none_free : Board → ℕ → Bool
none_free b g = cond (is_guest g) (free_count b.keeper g == 0) true

-- there is no room for one space more
abbrev pub crowded : Board → ℕ → Bool
crowded b g = nat_le 4 (length (b.guest g).spaces) || none_free b g

abbrev pub make_room : Board → ℕ → Board
make_room b g = cond (crowded b g) (dropped b g) b

-- a board after a step of a fault, and what the step found or why it was refused
pub record Reached (A : Type 0) : Type 0 where
  pub after : Board
  pub found : Result A Refusal

abbrev pub reached : {A : Type 0} → Board → A → Reached A
reached b x = record { after = b; found = Ok x }

abbrev pub stuck : {A : Type 0} → Board → Refusal → Reached A
stuck b e = record { after = b; found = Err e }

-- the next step, unless one was refused
abbrev pub going_on : {A B : Type 0} → Board → Result A Refusal → (Board → A → Reached B) → Reached B
going_on b (Ok x) f = f b x
going_on b (Err e) f = stuck b e

abbrev pub and_then : {A B : Type 0} → Reached A → (Board → A → Reached B) → Reached B
and_then r f = going_on r.after r.found f

-- page p, which the keeper gave, is the root of a new space
abbrev pub root_taken : Board → ℕ → ℕ → Option Refusal → Reached ℕ
root_taken b g p (Some e) = stuck b e
root_taken b g p None = reached (with_guest (with_keeper b (marked b.keeper g p false)) g (with_root (b.guest g) p)) p

unfoldable pub take_root : Board → ℕ → ℕ → Reached ℕ
take_root b g p = root_taken b g p (take_refusal b.keeper g)

-- the present space's root, which is made where there is none
abbrev pub rooted_by : Board → ℕ → ℕ → Option ℕ → Reached ℕ
rooted_by b g p (Some root) = reached b root
rooted_by b g p None = take_root (make_room b g) g p

unfoldable pub rooted : Board → ℕ → ℕ → Reached ℕ
rooted b g p = rooted_by b g p (present_root b g)

-- a leaf is wanted at place i of the root, and no page is free
abbrev pub short : Board → ℕ → ℕ → ℕ → Bool
short b g root i = word_at b.memory root i == 0 && none_free b g

-- then all is dropped, and the root taken afresh
unfoldable pub roomy : Board → ℕ → ℕ → ℕ → ℕ → Reached ℕ
roomy b g root i p = cond (short b g root i) (take_root (dropped b g) g p) (reached b root)

-- page p, which the keeper gave, is the leaf at place i of the root
abbrev pub leaf_taken : Board → ℕ → ℕ → ℕ → ℕ → Option Refusal → Reached ℕ
leaf_taken b g root i p (Some e) = stuck b e
leaf_taken b g root i p None = reached (with_keeper (with_memory b (written b.memory root i (root_word p))) (marked b.keeper g p false)) p

-- the leaf at place i of the root, which is made where there is none
unfoldable pub leafed : Board → ℕ → ℕ → ℕ → ℕ → Reached ℕ
leafed b g root i p =
    cond (word_at b.memory root i == 0)
    (leaf_taken b g root i p (take_refusal b.keeper g))
    (reached b (table_page (word_at b.memory root i)))

-- the pages that the keeper gives in a fault, in the order in which they may be wanted
pub record Picks : Type 0 where
  pub first : ℕ
  pub afresh : ℕ
  pub leaf : ℕ

-- a word put into guest g's shadow tables for an address
unfoldable pub filled : Board → ℕ → ℕ → ℕ → Picks → Reached (Unit {0})
filled b g va word q =
    and_then (rooted b g q.first) (λ c first.
    and_then (roomy c g first (first_index va) q.afresh) (λ d root.
    and_then (leafed d g root (first_index va) q.leaf) (λ e leaf.
    reached (with_memory e (written e.memory leaf (second_index va) word)) tt)))

-- page p may be what the keeper gives: one that guest g enrolled and that is free, if there is any
abbrev pub MayTake : Board → ℕ → ℕ → Type 0
MayTake b g p = take_refusal b.keeper g ≡ None → (member p (b.keeper.pages g) ≡ true) × (b.keeper.free g p ≡ true)

abbrev pub WhereFound : {A : Type 0} → Board → Result A Refusal → (Board → A → Type 0) → Type 0
WhereFound b (Ok x) P = P b x
WhereFound b (Err e) P = Unit {0}

abbrev pub Where : {A : Type 0} → Reached A → (Board → A → Type 0) → Type 0
Where r P = WhereFound r.after r.found P

abbrev pub FairRoot : Board → ℕ → ℕ → Type 0
FairRoot b g p = present_root b g ≡ None → MayTake (make_room b g) g p

abbrev pub FairRoom : Board → ℕ → ℕ → ℕ → ℕ → Type 0
FairRoom b g root i p = short b g root i ≡ true → MayTake (dropped b g) g p

abbrev pub FairLeaf : Board → ℕ → ℕ → ℕ → ℕ → Type 0
FairLeaf b g root i p = (word_at b.memory root i == 0) ≡ true → MayTake b g p

-- each page that a fault takes was free where it was taken; which free page it is stays open
abbrev pub FairFill : Board → ℕ → ℕ → Picks → Type 0
FairFill b g va q =
    FairRoot b g q.first × Where (rooted b g q.first) (λ c first.
    FairRoom c g first (first_index va) q.afresh × Where (roomy c g first (first_index va) q.afresh) (λ d root.
    FairLeaf d g root (first_index va) q.leaf))
