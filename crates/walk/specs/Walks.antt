-- The walk over what a guest sees.
use Rattle.std.specs.Prelude.{ℕ, ◌/◌, cond, Some, None, Ok, Err, Option, Result, nat_le, nat_lt}
use Rattle.std.specs.Option.{ok_or}
use Rattle.platform.specs.declared.access.Access.{Access}
use Rattle.platform.specs.declared.right.Right.{Right}
use Rattle.platform.specs.Rights.{rank}
use Rattle.descriptor.specs.declared.entry.FirstLevel.{FirstLevel}
use Rattle.descriptor.specs.declared.entry.SecondLevel.{SecondLevel}
use Rattle.descriptor.specs.Addresses.{first_index}
use Rattle.descriptor.specs.Entries.{first_level, second_level}
use Rattle.walk.specs.declared.abort.Abort.{Abort}
use Rattle.walk.specs.declared.abort.Abort.TheVariants.{SectionTranslation, PageTranslation, External, FirstLevelWalk, SectionPermission, SecondLevelWalk, PagePermission}
use Rattle.walk.specs.declared.mapping.Ask.{Ask}
use Rattle.walk.specs.declared.mapping.Mapping.{Mapping}
use Rattle.walk.specs.Sights.{Sight, permits}

-- the next step, unless the walk has aborted
abbrev pub next : {A B : Type 0} → Result A Abort → (A → Result B Abort) → Result B Abort
next (Ok x) f = f x
next (Err e) f = Err e

abbrev pub ask : ℕ → Right → Abort → Ask
ask page right denied = record { page = page; right = right; denied = denied }

-- what a second-level word asks for
abbrev pub ask_second : SecondLevel → Result Ask Abort
ask_second SecondLevel.Invalid = Err PageTranslation
ask_second (SecondLevel.LargePage page right) = Ok (ask page right PagePermission)
ask_second (SecondLevel.SmallPage page right) = Ok (ask page right PagePermission)

-- what a first-level word asks for: a table's second-level word is read
abbrev pub ask_entry : Sight → ℕ → FirstLevel → Result Ask Abort
ask_entry s va FirstLevel.Invalid = Err SectionTranslation
ask_entry s va FirstLevel.Supersection = Err SectionTranslation
ask_entry s va (FirstLevel.Section page right) = Ok (ask page right SectionPermission)
ask_entry s va (FirstLevel.Table page place) = next (ok_or (s.seen page place) SecondLevelWalk) (λ word. ask_second (second_level word va))

abbrev pub ask_first : Sight → ℕ → ℕ → Result Ask Abort
ask_first s word va = ask_entry s va (first_level word va)

-- paging on: the first-level word stands at the address's first index on the base's page
abbrev pub ask_on : Sight → ℕ → ℕ → Result Ask Abort
ask_on s base va =
    cond (nat_lt va 0x40000000)
    (next (ok_or (s.seen base (first_index va)) FirstLevelWalk) (λ word. ask_first s word va))
    (Err SectionTranslation)

-- paging off: the address's own page, with the right that the guest has there
abbrev pub ask_off : Sight → ℕ → Result Ask Abort
ask_off s va = cond (nat_lt va 0x40000000) (Ok (ask (va / 4096) (s.may (va / 4096)) External)) (Err External)

-- by the guest page of the first-level table, and by none while paging is off
abbrev pub asked : Sight → Option ℕ → ℕ → Result Ask Abort
asked s None va = ask_off s va
asked s (Some base) va = ask_on s base va

-- a page that is there, with the right asked for if the guest's own is no less
abbrev pub landed : Option ℕ → Right → Right → Result Mapping Abort
landed None own right = Err External
landed (Some p) own right = cond (nat_le (rank right) (rank own)) (Ok (record { page = p; right = right })) (Err External)

abbrev pub reached : Sight → ℕ → Right → Result Mapping Abort
reached s page right = landed (s.lies page) (s.may page) right

-- what is asked for must be enough for the access, and the guest must have it
abbrev pub granted : Sight → Access → Ask → Result Mapping Abort
granted s x q = cond (permits q.right x) (reached s q.page q.right) (Err q.denied)

abbrev pub walk_answer : Sight → Option ℕ → ℕ → Access → Result Mapping Abort
walk_answer s base va x = next (asked s base va) (granted s x)
