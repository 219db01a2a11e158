-- How the pages of each guest of a keeper stand, whatever one guest's order is.
use Rattle.std.specs.Prelude.{ℕ, is_ok, Err, vec_items, Result, if◌then◌else◌}
use Rattle.platform.specs.declared.refusal.Refusal.{Refusal}
use Rattle.platform.specs.declared.refusal.Refusal.TheVariants.{GuestOutOfRange}
use Rattle.platform.specs.Guests.{is_guest}
use Rattle.platform.specs.Keepers.{Keep}
use Rattle.keepers.specs.declared.keeper.Keeper.{Keeper}
use Rattle.keepers.specs.Shares.{Share, no_share, by_guest, changed, keep_of}

-- what a keeper means, if an order means a share
abbrev pub holdings_of : {S O : Type 0} → (O → Share) → (S → O) → Keeper S → Keep
holdings_of share order k = keep_of (by_guest no_share (λ s. share (order s)) (vec_items k.shares))

-- the order of each guest's pages, none of a number that names no guest
abbrev pub orders_of : {S O : Type 0} → O → (S → O) → Keeper S → ℕ → O
orders_of none order k = by_guest none order (vec_items k.shares)

-- one guest's order changed by a page; a refusal leaves all
abbrev pub changed_if : {O : Type 0} → Result (Unit {0}) Refusal → (O → ℕ → O) → (ℕ → O) → ℕ → ℕ → ℕ → O
changed_if r change s g p = if is_ok r then changed s g (change (s g) p) else s

-- the page that a take gives
abbrev pub chosen_by : {O : Type 0} → (O → Result ℕ Refusal) → (ℕ → O) → ℕ → Result ℕ Refusal
chosen_by choice s g = if is_guest g then choice (s g) else Err GuestOutOfRange

-- the orders that a take leaves
abbrev pub left_by : {O : Type 0} → (O → O) → (ℕ → O) → ℕ → ℕ → O
left_by left s g = changed s g (left (s g))
