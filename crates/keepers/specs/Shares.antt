-- What one guest has of a keeper, and what all guests have together.
use Rattle.std.specs.Prelude.{◌≡◌, ℕ, zero, suc, ◌-◌, Bool, true, false, cond, not, ◌&&◌, List, [], ◌∷◌, ◌++◌, length, is_ok, Ok, Err, Result, ◌==◌, nat_le}
use Rattle.platform.specs.declared.refusal.Refusal.{Refusal}
use Rattle.platform.specs.declared.refusal.Refusal.TheVariants.{KeeperRefuses}
use Rattle.platform.specs.Guests.{is_guest}
use Rattle.platform.specs.Keepers.{Keep}
use Rattle.platform.specs.Lists.{member, count}

-- one guest's enrolled pages, the oldest first, and which of them are free
pub record Share : Type 0 where
  pub pages : List ℕ
  pub free : ℕ → Bool

abbrev pub no_share : Share
no_share = record { pages = []; free = λ _. false }

-- the value of the i-th item, d where there is none
abbrev pub value_at : {A B : Type 0} → B → (A → B) → List A → ℕ → B
value_at d f [] i = d
value_at d f (x ∷ xs) zero = f x
value_at d f (x ∷ xs) (suc i) = value_at d f xs i

-- the value of each guest's item, that of guest 1 first; d of a number that names no guest
abbrev pub by_guest : {A B : Type 0} → B → (A → B) → List A → ℕ → B
by_guest d f xs g = cond (is_guest g) (value_at d f xs (g - 1)) d

-- one guest's value changed
abbrev pub changed : {B : Type 0} → (ℕ → B) → ℕ → B → ℕ → B
changed s g v = λ h. cond (h == g) v (s h)

-- what the guests' shares are together
abbrev pub keep_of : (ℕ → Share) → Keep
keep_of s = record { pages = λ g. (s g).pages; free = λ g. (s g).free }

-- page p more, free
abbrev pub share_with : Share → ℕ → Share
share_with s p = record { pages = s.pages ++ p ∷ []; free = λ q. cond (q == p) true (s.free q) }

-- page p is free, or not
abbrev pub share_marked : Share → ℕ → Bool → Share
share_marked s p b = record { pages = s.pages; free = λ q. cond (q == p) b (s.free q) }

-- a page more is refused if there are 64
abbrev pub share_enrol_answer : Share → Result (Unit {0}) Refusal
share_enrol_answer s = cond (nat_le 64 (length s.pages)) (Err KeeperRefuses) (Ok tt)

abbrev pub share_enrol_after : Share → ℕ → Share
share_enrol_after s p = cond (is_ok (share_enrol_answer s)) (share_with s p) s

-- a page is given back if it is enrolled and not free
abbrev pub share_give_answer : Share → ℕ → Result (Unit {0}) Refusal
share_give_answer s p = cond (member p s.pages && not (s.free p)) (Ok tt) (Err KeeperRefuses)

abbrev pub share_give_after : Share → ℕ → Share
share_give_after s p = cond (is_ok (share_give_answer s p)) (share_marked s p true) s

-- what a take may answer and leave of one share
abbrev pub ShareTaken : Share → Result ℕ Refusal → Share → Type 0
ShareTaken s (Ok p) after = (member p s.pages ≡ true) × (s.free p ≡ true) × (after ≡ share_marked s p false)
ShareTaken s (Err e) after = (e ≡ KeeperRefuses) × (count s.free s.pages ≡ 0) × (after ≡ s)
