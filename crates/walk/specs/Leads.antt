-- The walk as a relation: where a guest's tables lead, and what it may have there.
use Rattle.std.specs.Prelude.{◌≡◌, ℕ, ◌/◌, ◌<◌, ◌≤◌, true, ◌⊎◌, Some, None, Ok, Option}
use Rattle.platform.specs.declared.access.Access.{Access}
use Rattle.platform.specs.declared.right.Right.{Right}
use Rattle.platform.specs.Rights.{rank}
use Rattle.descriptor.specs.declared.entry.FirstLevel.{FirstLevel}
use Rattle.descriptor.specs.declared.entry.SecondLevel.{SecondLevel}
use Rattle.descriptor.specs.Addresses.{first_index}
use Rattle.descriptor.specs.Entries.{first_level, second_level}
use Rattle.walk.specs.declared.mapping.Mapping.{Mapping}
use Rattle.walk.specs.Sights.{Sight, permits}
use Rattle.walk.specs.Walks.{walk_answer}

-- a second-level word names a page with a right
abbrev pub Names : ℕ → ℕ → ℕ → Right → Type 0
Names word va page right = (second_level word va ≡ SecondLevel.LargePage page right) ⊎ (second_level word va ≡ SecondLevel.SmallPage page right)

-- a first-level word names a table whose word the guest may read, and that word names a page with a right
abbrev pub ThroughTable : Sight → ℕ → ℕ → ℕ → Right → Type 0
ThroughTable s word va page right =
    (t : ℕ) × ((k : ℕ) × ((second : ℕ) × ((first_level word va ≡ FirstLevel.Table t k) × (s.seen t k ≡ Some second) × Names second va page right)))

-- at an address the guest asks for a guest page with a right
abbrev pub Leads : Sight → ℕ → Option ℕ → ℕ → Right → Type 0
Leads s va None page right = (va < 0x40000000) × (page ≡ va / 4096) × (right ≡ s.may page)
Leads s va (Some base) page right =
    (va < 0x40000000)
    × ((word : ℕ) × ((s.seen base (first_index va) ≡ Some word)
    × ((first_level word va ≡ FirstLevel.Section page right) ⊎ ThroughTable s word va page right)))

-- a mapping for a guest page: it is there, within the guest's right, and enough for the access
pub record MayHave (s : Sight) (x : Access) (page : ℕ) (t : Mapping) : Type 0 where
  pub enough : permits t.right x ≡ true
  pub there : s.lies page ≡ Some t.page
  pub within : rank t.right ≤ rank (s.may page)

abbrev pub AnswersAreLedTo : Type 0
AnswersAreLedTo =
    (s : Sight) (base : Option ℕ) (va : ℕ) (x : Access) (t : Mapping) → walk_answer s base va x ≡ Ok t
    → (page : ℕ) × (Leads s va base page t.right × MayHave s x page t)

abbrev pub WhatIsLedToIsAnswered : Type 0
WhatIsLedToIsAnswered =
    (s : Sight) (base : Option ℕ) (va : ℕ) (x : Access) (t : Mapping) (page : ℕ)
    → Leads s va base page t.right → MayHave s x page t → walk_answer s base va x ≡ Ok t
