-- Worked examples of the definitions that contracts cite, as one theorem over a list.
use Rattle.std.specs.Prelude.{◌≡◌, ℕ, List, [], ◌∷◌, Some, None, Ok, Err, Result}
use Rattle.platform.specs.declared.access.Access.{Access}
use Rattle.platform.specs.declared.right.Right.TheVariants.{Read, Write}
use Rattle.platform.specs.Windows.{Pane, physical}
use Rattle.books.specs.Bytes.{byte_right}
use Rattle.descriptor.specs.declared.entry.FirstLevel.TheVariants.{Table, Section}
use Rattle.descriptor.specs.declared.entry.SecondLevel.TheVariants.{LargePage, SmallPage}
use Rattle.descriptor.specs.Addresses.{first_index, second_index}
use Rattle.descriptor.specs.Entries.{first_level, second_level}
use Rattle.descriptor.specs.Shadow.{leaf_word}
use Rattle.walk.specs.declared.abort.Abort.{Abort}
use Rattle.walk.specs.Aborts.{code}
use Rattle.walk.specs.Sights.{Sight}
use Rattle.walk.specs.Walks.{ask_first, walk_answer}

-- the fault status code of an abort; 0 where there is none
abbrev pub aborted : {A : Type 0} → Result A Abort → ℕ
aborted (Ok t) = 0
aborted (Err e) = code e

-- twelve pages, seen from guest page 256 on
abbrev pub twelve : Pane
twelve = record { first = 256; count = 12 }

-- for any sight, base and access
abbrev pub examples : Sight → ℕ → Access → List (Type 0)
examples s b x =
    (first_index 0x00502000 ≡ 5)
    ∷ (second_index 0x00502000 ≡ 2)
    ∷ (aborted (walk_answer s (Some b) 0x40000000 x) ≡ 0x05)
    ∷ (first_level 0x00100C02 0x00502000 ≡ Section 0x102 Write)
    ∷ (aborted (ask_first s 0x00140C02 0x00502000) ≡ 0x05)
    ∷ (first_level 0x00101C01 0x00502000 ≡ Table 0x101 770)
    ∷ (second_level 0x00110031 0x00503000 ≡ LargePage 0x113 Write)
    ∷ (second_level 0x00104232 0x00503000 ≡ SmallPage 0x104 Read)
    ∷ (leaf_word 2 Write ≡ 0x0000203E)
    ∷ (leaf_word 2 Read ≡ 0x0000223E)
    ∷ (physical twelve 256 ≡ Some 0)
    ∷ (physical twelve 267 ≡ Some 11)
    ∷ (physical twelve 255 ≡ None)
    ∷ (physical twelve 268 ≡ None)
    ∷ (byte_right 0x12 1 ≡ Write)
    ∷ (byte_right 0x12 2 ≡ Read)
    ∷ []

-- every one of them holds
abbrev pub All : List (Type 0) → Type 0
All [] = Unit {0}
All (P ∷ Ps) = P × All Ps

abbrev pub WorkedExamples : Type 0
WorkedExamples = (s : Sight) (b : ℕ) (x : Access) → All (examples s b x)
