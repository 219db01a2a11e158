-- One guest's stack, and which page a take gives.
use Rattle.std.specs.Prelude.{◌≡◌, ℕ, ◌-◌, cond, List, [], ◌∷◌, ◌++◌, length, slice_index, take, is_ok, Ok, Err, vec_items, Result, ◌==◌}
use Rattle.platform.specs.declared.refusal.Refusal.{Refusal}
use Rattle.platform.specs.declared.refusal.Refusal.TheVariants.{KeeperRefuses}
use Rattle.platform.specs.Lists.{member}
use Rattle.keepers.specs.declared.keeper.Keeper.{Keeper}
use Rattle.keepers.specs.declared.stack.PageStack.{PageStack}
use Rattle.keepers.specs.Orders.{orders_of}
use Rattle.keepers.specs.Shares.{Share, changed}

-- the enrolled pages, the oldest first, and the free ones, the newest last
pub record Pile : Type 0 where
  pub pages : List ℕ
  pub free : List ℕ

abbrev pub no_pile : Pile
no_pile = record { pages = []; free = [] }

abbrev pub pile_of : PageStack → Pile
pile_of s = record { pages = vec_items s.pages; free = vec_items s.free }

-- what a pile means
abbrev pub pile_share : Pile → Share
pile_share o = record { pages = o.pages; free = λ p. member p o.free }

-- page p more, on top
abbrev pub pile_with : Pile → ℕ → Pile
pile_with o p = record { pages = o.pages ++ p ∷ []; free = o.free ++ p ∷ [] }

-- page p back on top
abbrev pub pile_freed : Pile → ℕ → Pile
pile_freed o p = record { pages = o.pages; free = o.free ++ p ∷ [] }

-- a take answers the page on top, and leaves the pages below it; it is refused where no page is free
abbrev pub pile_answer : Pile → Result ℕ Refusal
pile_answer o = cond (length o.free == 0) (Err KeeperRefuses) (Ok (slice_index o.free (length o.free - 1)))

abbrev pub pile_after : Pile → Pile
pile_after o = record { pages = o.pages; free = take (length o.free - 1) o.free }

-- the free pages of each guest, the newest last: given or enrolled last
abbrev pub stack_of : Keeper PageStack → ℕ → List ℕ
stack_of k = λ g. (orders_of no_pile pile_of k g).free

-- page p on guest g's stack
abbrev pub pushed : (ℕ → List ℕ) → ℕ → ℕ → ℕ → List ℕ
pushed s g p = changed s g (s g ++ p ∷ [])

-- a page that is enrolled or given goes on its guest's stack; a refusal leaves all
abbrev pub pushed_if : Result (Unit {0}) Refusal → (ℕ → List ℕ) → ℕ → ℕ → ℕ → List ℕ
pushed_if r s g p = cond (is_ok r) (pushed s g p) s

-- a take answers the page on top, and leaves the pages below it; a refusal leaves all
abbrev pub TopTaken : (ℕ → List ℕ) → ℕ → Result ℕ Refusal → (ℕ → List ℕ) → Type 0
TopTaken s g (Ok p) after = s ≡ pushed after g p
TopTaken s g (Err e) after = after ≡ s
