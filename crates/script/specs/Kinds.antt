-- The kinds of records and their numbers.
use Rattle.std.specs.Prelude.{ℕ, Ok, Err, Result, if◌then◌else◌, ◌==◌}
use Rattle.platform.specs.declared.refusal.Refusal.{Refusal}
use Rattle.platform.specs.declared.refusal.Refusal.TheVariants.{UnknownKind}
use Rattle.script.specs.declared.kind.Kind.{Kind}
use Rattle.script.specs.declared.kind.Kind.TheVariants.{Window, Present, Word, Pool, Grant, Start, Schedule, Switch, PagingOn, PagingOff, Flush, FlushPage, Fault, Load, Store, Status}

-- the number of a kind
abbrev pub kind_number : Kind → ℕ
kind_number Window = 1
kind_number Present = 2
kind_number Word = 3
kind_number Pool = 4
kind_number Grant = 5
kind_number Start = 6
kind_number Schedule = 16
kind_number Switch = 17
kind_number PagingOn = 18
kind_number PagingOff = 19
kind_number Flush = 20
kind_number FlushPage = 21
kind_number Fault = 22
kind_number Load = 23
kind_number Store = 24
kind_number Status = 25

-- the kind that a number names; any other number is refused
abbrev pub kind_numbered : ℕ → Result Kind Refusal
kind_numbered n =
    if n == 1 then Ok Window
    else if n == 2 then Ok Present
    else if n == 3 then Ok Word
    else if n == 4 then Ok Pool
    else if n == 5 then Ok Grant
    else if n == 6 then Ok Start
    else if n == 16 then Ok Schedule
    else if n == 17 then Ok Switch
    else if n == 18 then Ok PagingOn
    else if n == 19 then Ok PagingOff
    else if n == 20 then Ok Flush
    else if n == 21 then Ok FlushPage
    else if n == 22 then Ok Fault
    else if n == 23 then Ok Load
    else if n == 24 then Ok Store
    else if n == 25 then Ok Status
    else Err UnknownKind
