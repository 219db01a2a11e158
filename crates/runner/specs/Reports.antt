-- What the program prints for a script.
use Rattle.std.specs.Prelude.{ℕ, ◌+◌, cond, ◌&&◌, List, [], ◌∷◌, take, nat_le, Ok, Err, Result, unwrap_or}
use Rattle.std.specs.declared.ops.ControlFlow.{ControlFlow}
use Rattle.std.specs.declared.ops.ControlFlow.TheVariants.{Continue, Break}
use Rattle.platform.specs.declared.refusal.Refusal.{Refusal}
use Rattle.platform.specs.declared.refusal.Refusal.TheVariants.{UnknownKind}
use Rattle.script.specs.declared.command.Command.{Command}
use Rattle.script.specs.declared.whole.BadRecord.{BadRecord}
use Rattle.script.specs.Kinds.{kind_number}
use Rattle.script.specs.Commands.{kind_of}
use Rattle.script.specs.Scripts.{Contents, script_of}
use Rattle.listing.specs.declared.line.Line.{Line}
use Rattle.listing.specs.Texts.{listing_text}
use Rattle.runner.specs.States.{State, opening}
use Rattle.runner.specs.Turns.{Outcome, perform}

abbrev pub line : ℕ → ℕ → Outcome → Line
line n kind o = record { number = n; kind = kind; outcome = o }

-- the kinds of the calls that are not served yet are unknown, whatever the body
abbrev pub known : ℕ → Refusal → Refusal
known kind why = cond (nat_le 20 kind && nat_le kind 24) UnknownKind why

-- the number that the listing has for the kind of a record: 0 for one that is cut
abbrev pub shown_kind : BadRecord → ℕ
shown_kind bad = unwrap_or bad.kind 0

-- the line of the record at which reading stopped, if any
abbrev pub last_line : ℕ → Result (Unit {0}) BadRecord → List Line
last_line n (Ok x) = []
last_line n (Err bad) = line n (shown_kind bad) (Err (known (shown_kind bad) bad.refusal)) ∷ []

-- the line of the n-th record, of some kind, and then those that follow, unless the program stops
abbrev pub turn_lines : ℕ → ℕ → ControlFlow Outcome Outcome → List Line → List Line
turn_lines n kind (Continue o) rest = line n kind o ∷ rest
turn_lines n kind (Break o) rest = line n kind o ∷ []

-- the lines of commands, of which the first is that of the n-th record
unfoldable pub lines_from : State → ℕ → List Command → Result (Unit {0}) BadRecord → List Line
lines_from s n [] e = last_line n e
lines_from s n (c ∷ cs) e = turn_lines n (kind_number (kind_of c)) (perform s c).step (lines_from (perform s c).after (n + 1) cs e)

-- the lines of a whole script
abbrev pub lines_of : Contents → List Line
lines_of c = lines_from opening 1 c.commands c.end

-- all that is printed: of the input no more than its first 16,384 bytes count
abbrev pub report_of : List ℕ → List ℕ
report_of xs = listing_text (lines_of (script_of (take 16384 xs)))
