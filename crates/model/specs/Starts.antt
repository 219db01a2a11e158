-- A board right after start.
use Rattle.std.specs.Prelude.{◌≡◌, ℕ, ◌<◌, ◌≤◌, Bool, true, false, List, [], length, Some, None, nat_eq}
use Rattle.platform.specs.Books.{PoolsGiveNothing, OneWriter, FarPagesGiveNothing, StrangersHaveNothing}
use Rattle.platform.specs.Guests.{is_guest}
use Rattle.platform.specs.Lists.{count, member}
use Rattle.model.specs.Boards.{Guest, Board}

-- guest g has enrolled page p
abbrev pub enrolled : Board → ℕ → ℕ → Bool
enrolled b g p = member p (b.keeper.pages g)

-- a guest right after start: paging off, base 0, no abort yet, no space
abbrev pub new_guest : Bool → List ℕ → Guest
new_guest admitted pages = record { admitted = admitted; paging = false; base = 0; code = 0; address = 0; spaces = []; tables = pages }

-- over any memory, book and keeper with their laws: each guest's enrolled pages are of its own pool, inside the window
-- and present, all free and clear, and each is enrolled once; an admitted guest has two at least; no guest runs
pub record Started (b : Board) : Type 0 where
  pub pools : PoolsGiveNothing b.book
  pub writers : OneWriter b.book
  pub far : FarPagesGiveNothing b.book
  pub strangers : StrangersHaveNothing b.book
  pub window_size : b.window.count ≤ 65536
  pub own_pool : (g p : ℕ) → enrolled b g p ≡ true → b.book.pool p ≡ Some g
  pub in_window : (g p : ℕ) → enrolled b g p ≡ true → p < b.window.count
  pub is_present : (g p : ℕ) → enrolled b g p ≡ true → b.memory.has p ≡ true
  pub once : (g p : ℕ) → enrolled b g p ≡ true → count (λ q. nat_eq q p) (b.keeper.pages g) ≡ 1
  pub guests_only : (g p : ℕ) → enrolled b g p ≡ true → is_guest g ≡ true
  pub all_free : (g p : ℕ) → b.keeper.free g p ≡ enrolled b g p
  pub all_clear : (g p k : ℕ) → enrolled b g p ≡ true → k < 1024 → b.memory.word p k ≡ 0
  pub two_pages : (g : ℕ) → (b.guest g).admitted ≡ true → 2 ≤ length (b.keeper.pages g)
  pub new_guests : (g : ℕ) → b.guest g ≡ new_guest (b.guest g).admitted (b.keeper.pages g)
  pub none_runs : b.running ≡ None
