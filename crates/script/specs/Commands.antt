-- What command a record says.
use Rattle.std.specs.Prelude.{ℕ, List, length, Ok, Err, Result, if◌then◌else◌, ◌==◌}
use Rattle.platform.specs.declared.refusal.Refusal.{Refusal}
use Rattle.platform.specs.declared.refusal.Refusal.TheVariants.{WrongLength}
use Rattle.platform.specs.Rights.{access_numbered}
use Rattle.script.specs.declared.kind.Kind.{Kind}
use Rattle.script.specs.declared.command.Command.{Command}
use Rattle.script.specs.declared.command.Command.TheVariants.{Window, Present, Word, Pool, Grant, Start, Schedule, Switch, PagingOn, PagingOff, Flush, FlushPage, Fault, Load, Store, Status}
use Rattle.script.specs.Kinds.{kind_numbered}
use Rattle.script.specs.Fields.{field, span_field}

-- the kind of the records that say a command
abbrev pub kind_of : Command → Kind
kind_of (Window span) = Kind.Window
kind_of (Present span) = Kind.Present
kind_of (Word page place word) = Kind.Word
kind_of (Pool guest span) = Kind.Pool
kind_of (Grant guest span right) = Kind.Grant
kind_of Start = Kind.Start
kind_of (Schedule guest) = Kind.Schedule
kind_of (Switch base) = Kind.Switch
kind_of PagingOn = Kind.PagingOn
kind_of PagingOff = Kind.PagingOff
kind_of Flush = Kind.Flush
kind_of (FlushPage address) = Kind.FlushPage
kind_of (Fault address access) = Kind.Fault
kind_of (Load address) = Kind.Load
kind_of (Store address word) = Kind.Store
kind_of Status = Kind.Status

-- a body of n bytes says the command, and one of any other length is refused
abbrev pub sized : ℕ → List ℕ → Command → Result Command Refusal
sized n body command = if length body == n then Ok command else Err WrongLength

-- what a record of a kind says
abbrev pub said_by : Kind → List ℕ → Result Command Refusal
said_by Kind.Window b = sized 8 b (Window (span_field b 0))
said_by Kind.Present b = sized 8 b (Present (span_field b 0))
said_by Kind.Word b = sized 10 b (Word (field b 0 4) (field b 4 2) (field b 6 4))
said_by Kind.Pool b = sized 9 b (Pool (field b 0 1) (span_field b 1))
said_by Kind.Grant b = sized 10 b (Grant (field b 0 1) (span_field b 1) (field b 9 1))
said_by Kind.Start b = sized 0 b Start
said_by Kind.Schedule b = sized 1 b (Schedule (field b 0 1))
said_by Kind.Switch b = sized 4 b (Switch (field b 0 4))
said_by Kind.PagingOn b = sized 0 b PagingOn
said_by Kind.PagingOff b = sized 0 b PagingOff
said_by Kind.Flush b = sized 0 b Flush
said_by Kind.FlushPage b = sized 4 b (FlushPage (field b 0 4))
said_by Kind.Fault b = sized 5 b (Fault (field b 0 4) (access_numbered (field b 4 1)))
said_by Kind.Load b = sized 4 b (Load (field b 0 4))
said_by Kind.Store b = sized 8 b (Store (field b 0 4) (field b 4 4))
said_by Kind.Status b = sized 0 b Status

-- a command, if no byte is left after its fields
abbrev pub at_end : List ℕ → Result Command Refusal → Result Command Refusal
at_end rest (Ok command) = if length rest == 0 then Ok command else Err WrongLength
at_end rest (Err why) = Err why

-- what a body says, by the kind of its record, where the number of the kind names one
abbrev pub said_of : Result Kind Refusal → List ℕ → Result Command Refusal
said_of (Ok kind) b = said_by kind b
said_of (Err why) b = Err why

-- what a record says, by the number of its kind
abbrev pub command_of : ℕ → List ℕ → Result Command Refusal
command_of number b = said_of (kind_numbered number) b
