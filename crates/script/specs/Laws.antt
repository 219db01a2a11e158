-- The law of reading a whole script: nothing is lost, and nothing is made up.
use Rattle.std.specs.List.{flat_map}
use Rattle.std.specs.Prelude.{◌≡◌, ℕ, ◌⊎◌, List, [], ◌++◌, map, Some, None, Ok, Err, Option, Result}
use Rattle.platform.specs.declared.refusal.Refusal.{Refusal}
use Rattle.platform.specs.declared.refusal.Refusal.TheVariants.{RecordCut}
use Rattle.script.specs.declared.command.Command.{Command}
use Rattle.script.specs.declared.whole.BadRecord.{BadRecord}
use Rattle.script.specs.Records.{found, refused, reading, spelling}
use Rattle.script.specs.Commands.{command_of}

-- a record as it stands in a script
pub record RawRecord : Type 0 where
  pub kind : ℕ
  pub body : List ℕ

-- the bytes of records, one after the other
abbrev pub spellings : List RawRecord → List ℕ
spellings rs = flat_map (λ r. spelling r.kind r.body) rs

-- the command that a record says
abbrev pub said : RawRecord → Result Command Refusal
said r = command_of r.kind r.body

-- the bytes begin with a record that is cut, which has no kind
abbrev pub BeginsCut : List ℕ → Option ℕ → Refusal → Type 0
BeginsCut left kind why = (reading left ≡ refused RecordCut) × (kind ≡ None) × (why ≡ RecordCut)

-- the bytes begin with a whole record of this kind, which says no command
abbrev pub BeginsRefused : List ℕ → Option ℕ → Refusal → Type 0
BeginsRefused left None why = ⊥
BeginsRefused left (Some kind) why = (body : List ℕ) × (reading left ≡ found kind body) × (command_of kind body ≡ Err why)

-- why reading stops before the bytes that are left: there are none, or they begin with a record that is refused
abbrev pub Stops : List ℕ → Result (Unit {0}) BadRecord → Type 0
Stops left (Ok done) = left ≡ []
Stops left (Err b) = BeginsCut left b.kind b.refusal ⊎ BeginsRefused left b.kind b.refusal

-- A script is the spelling of some records and what is left; those records say the commands, one by one;
-- and what is left is why reading stopped.
pub record ReadsWhole (xs : List ℕ) (commands : List Command) (end : Result (Unit {0}) BadRecord) : Type 0 where
  pub records : List RawRecord
  pub left : List ℕ
  pub spelled : xs ≡ spellings records ++ left
  pub decoded : map said records ≡ map Ok commands
  pub stops : Stops left end
