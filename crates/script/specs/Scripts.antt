-- What a whole script says.
use Rattle.std.specs.Prelude.{ℕ, zero, suc, List, [], ◌∷◌, length, Some, None, Ok, Err, Option, Result, vec_items}
use Rattle.platform.specs.declared.refusal.Refusal.{Refusal}
use Rattle.script.specs.declared.command.Command.{Command}
use Rattle.script.specs.declared.whole.BadRecord.{BadRecord}
use Rattle.script.specs.declared.whole.Script.{Script}
use Rattle.script.specs.Records.{Reading, found, refused, ended, reading, rest_after}
use Rattle.script.specs.Commands.{command_of}

-- the commands of a script in order, and how they end
pub record Contents : Type 0 where
  pub commands : List Command
  pub end : Result (Unit {0}) BadRecord

-- what a script that was read holds
abbrev pub contents : Script → Contents
contents s = record { commands = vec_items s.commands; end = s.end }

-- a record at which reading stops
abbrev pub bad : Option ℕ → Refusal → BadRecord
bad kind why = record { kind = kind; refusal = why }

-- the command of a record of some kind, or that reading stops at the record
abbrev pub admitted : ℕ → Result Command Refusal → Result (Option Command) BadRecord
admitted kind (Ok command) = Ok (Some command)
admitted kind (Err why) = Err (bad (Some kind) why)

-- the command that was found, if any, or the record at which reading stops: a cut record has no kind
abbrev pub step : Reading → Result (Option Command) BadRecord
step (found kind body) = admitted kind (command_of kind body)
step (refused why) = Err (bad None why)
step ended = Ok None

-- a command and then the rest; nothing follows where reading stops
abbrev pub followed : Result (Option Command) BadRecord → Contents → Contents
followed (Ok (Some command)) rest = record { commands = command ∷ rest.commands; end = rest.end }
followed (Ok None) rest = record { commands = []; end = Ok tt }
followed (Err why) rest = record { commands = []; end = Err why }

-- what the bytes that are left say, in so many turns
unfoldable pub script_from : ℕ → List ℕ → Contents
script_from zero xs = record { commands = []; end = Ok tt }
script_from (suc turns) xs = followed (step (reading xs)) (script_from turns (rest_after (reading xs) xs))

-- what a script says: a record has four bytes at least, so these turns reach its end
abbrev pub script_of : List ℕ → Contents
script_of xs = script_from (suc (length xs)) xs
