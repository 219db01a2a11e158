-- The meaning of a page keeper.
use Rattle.std.specs.Prelude.{◌≡◌, ℕ, ◌+◌, Bool, true, false, cond, not, ◌&&◌, ◌||◌, List, [], ◌∷◌, ◌++◌, length, is_ok, Some, None, Ok, Err, Option, Result, ◌==◌, nat_le}
use Rattle.platform.specs.declared.refusal.Refusal.{Refusal}
use Rattle.platform.specs.declared.refusal.Refusal.TheVariants.{GuestOutOfRange, KeeperRefuses}
use Rattle.platform.specs.Guests.{is_guest}
use Rattle.platform.specs.Lists.{any_below, count, member}

-- the enrolled pages of each guest, the oldest first, and which of them are free
pub record Keep : Type 0 where
  pub pages : ℕ → List ℕ
  pub free : ℕ → ℕ → Bool

-- no page
abbrev pub emptied : Keep
emptied = record { pages = λ _. []; free = λ _ _. false }

-- some guest has enrolled page p
abbrev pub is_enrolled : Keep → ℕ → Bool
is_enrolled k p = any_below (λ i. member p (k.pages (i + 1))) 8

-- page p more for guest g, free
abbrev pub with_page : Keep → ℕ → ℕ → Keep
with_page k g p = record {
  pages = λ h. cond (h == g) (k.pages g ++ p ∷ []) (k.pages h);
  free = λ h q. cond (h == g && q == p) true (k.free h q);
}

-- refused exactly if some guest has the page or this one has 64
abbrev pub enrol_answer : Keep → ℕ → ℕ → Result (Unit {0}) Refusal
enrol_answer k g p =
    cond (is_guest g)
    (cond (is_enrolled k p || nat_le 64 (length (k.pages g))) (Err KeeperRefuses) (Ok tt))
    (Err GuestOutOfRange)

abbrev pub enrol_after : Keep → ℕ → ℕ → Keep
enrol_after k g p = cond (is_ok (enrol_answer k g p)) (with_page k g p) k

-- how many pages of guest g are free
abbrev pub free_count : Keep → ℕ → ℕ
free_count k g = count (k.free g) (k.pages g)

abbrev pub free_answer : Keep → ℕ → Result ℕ Refusal
free_answer k g = cond (is_guest g) (Ok (free_count k g)) (Err GuestOutOfRange)

-- page p of guest g is free, or not
abbrev pub marked : Keep → ℕ → ℕ → Bool → Keep
marked k g p b = record { pages = k.pages; free = λ h q. cond (h == g && q == p) b (k.free h q) }

-- why a take is refused, if it is: exactly if no page is free
abbrev pub take_refusal : Keep → ℕ → Option Refusal
take_refusal k g = cond (is_guest g) (cond (free_count k g == 0) (Some KeeperRefuses) None) (Some GuestOutOfRange)

-- what a take may answer and leave: some page that guest g enrolled and that was free, and is so no more;
-- or the refusal, and all as it was
abbrev pub Taken : Keep → ℕ → Result ℕ Refusal → Keep → Type 0
Taken k g (Ok p) after = (take_refusal k g ≡ None) × (member p (k.pages g) ≡ true) × (k.free g p ≡ true) × (after ≡ marked k g p false)
Taken k g (Err e) after = (take_refusal k g ≡ Some e) × (after ≡ k)

-- refused exactly if guest g has not enrolled the page or it is free
abbrev pub give_answer : Keep → ℕ → ℕ → Result (Unit {0}) Refusal
give_answer k g p = cond (is_guest g) (cond (member p (k.pages g) && not (k.free g p)) (Ok tt) (Err KeeperRefuses)) (Err GuestOutOfRange)

abbrev pub give_after : Keep → ℕ → ℕ → Keep
give_after k g p = cond (is_ok (give_answer k g p)) (marked k g p true) k
