-- What every run of a page keeper keeps true, and what an exchange does.
use Rattle.std.specs.Prelude.{◌≡◌, ℕ, ◌≤◌, true, false, [], length, Ok, Err, Result}
use Rattle.platform.specs.declared.refusal.Refusal.{Refusal}
use Rattle.platform.specs.Guests.{is_guest}
use Rattle.platform.specs.Keepers.{Keep, emptied, enrol_after, give_answer, give_after, marked, Taken}
use Rattle.platform.specs.Lists.{member}
use Rattle.keepers.specs.Sets.{distinct}

-- no guest has a page twice or more than 64, no two guests have one page, a number that names no guest has none,
-- and a page that is free is enrolled
pub record Lawful (k : Keep) : Type 0 where
  pub once : (g : ℕ) → distinct (k.pages g) ≡ true
  pub few : (g : ℕ) → length (k.pages g) ≤ 64
  pub apart : (g h p : ℕ) → member p (k.pages g) ≡ true → member p (k.pages h) ≡ true → g ≡ h
  pub strangers : (g : ℕ) → is_guest g ≡ false → k.pages g ≡ []
  pub enrolled : (g p : ℕ) → k.free g p ≡ true → member p (k.pages g) ≡ true

-- it holds of an empty keeper, and every call keeps it
pub record StayLawful : Type 0 where
  pub empty : Lawful emptied
  pub enrol : (k : Keep) (g p : ℕ) → Lawful k → Lawful (enrol_after k g p)
  pub give : (k : Keep) (g p : ℕ) → Lawful k → Lawful (give_after k g p)
  pub take : (k after : Keep) (g : ℕ) (r : Result ℕ Refusal) → Lawful k → Taken k g r after → Lawful after

-- what an exchange of page p may answer and leave: some page q that is free once p is, p itself maybe, and is so no more;
-- or the refusal of p, and all as it was
abbrev pub Exchanged : Keep → ℕ → ℕ → Result ℕ Refusal → Keep → Type 0
Exchanged k g p (Ok q) after =
    (give_answer k g p ≡ Ok tt) × (member q (k.pages g) ≡ true) × ((marked k g p true).free g q ≡ true) × (after ≡ marked (marked k g p true) g q false)
Exchanged k g p (Err e) after = (give_answer k g p ≡ Err e) × (after ≡ k)
