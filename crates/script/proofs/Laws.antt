-- What holds of the part of a script that was read, and of all of it.
use Rattle.std.proofs.Common.{◌≡◌, ℕ, ◌+◌, ◌≤◌, List, [], ◌∷◌, ◌++◌, map, length, Some, None, Ok, Err, Result, refl, ap, ◌∙◌, subst, inl, inr, length-append, arith}
use Rattle.std.proofs.lemmas.Grind.{common_steps}
use Rattle.std.proofs.lemmas.List.{nil_from_length}
use Rattle.std.proofs.lemmas.Bool.Decides.{nat_tests}
use Rattle.platform.specs.declared.refusal.Refusal.{Refusal}
use Rattle.platform.specs.declared.refusal.Refusal.TheVariants.{RecordCut}
use Rattle.script.specs.declared.command.Command.{Command}
use Rattle.script.specs.declared.whole.BadRecord.{BadRecord}
use Rattle.script.specs.Records.{Reading, found, refused, ended, reading, spelling, Spelled}
use Rattle.script.specs.Commands.{command_of}
use Rattle.script.specs.Scripts.{Contents, bad, admitted, step}
use Rattle.script.specs.Laws.{RawRecord, spellings, said, Stops, ReadsWhole}

-- commands, and then what follows
abbrev pub preceded : List Command → Contents → Contents
preceded commands rest = record { commands = commands ++ rest.commands; end = rest.end }

-- the records before the bytes that are left, and the commands that they say
pub record ReadTo (xs : List ℕ) (rest : List ℕ) (commands : List Command) : Type 0 where
  pub records : List RawRecord
  pub spelled : xs ≡ spellings records ++ rest
  pub decoded : map said records ≡ map Ok commands

-- a record more
read_record : (xs before after : List ℕ) (commands : List Command) (command : Command) (r : RawRecord) → ReadTo xs before commands
    → said r ≡ Ok command → before ≡ spelling r.kind r.body ++ after → ReadTo xs after (commands ++ command ∷ [])
read_record xs before after commands command r t says here =
    record { records = t.records ++ r ∷ []; spelled = grind (arith, common_steps); decoded = grind (arith, common_steps) }

admits : (kind : ℕ) (command : Command) (s : Result Command Refusal) → admitted kind s ≡ Ok (Some command) → s ≡ Ok command
admits kind command (Ok other) e = cc
admits kind command (Err why) e = cc

-- the same, by what was read
pub read_more : (xs before after : List ℕ) (commands : List Command) (command : Command) (r : Reading) → ReadTo xs before commands
    → step r ≡ Ok (Some command) → Spelled r before after → ReadTo xs after (commands ++ command ∷ [])
read_more xs before after commands command (found kind body) t e here =
    read_record xs before after commands command (record { kind = kind; body = body }) t (admits kind command (command_of kind body) e) here
read_more xs before after commands command (refused why) t e here = absurd (cc)
read_more xs before after commands command ended t e here = absurd (cc)

-- a record that says a command has four bytes at least
pub shorter : (before after : List ℕ) (command : Command) (r : Reading) → step r ≡ Ok (Some command) → Spelled r before after → 4 + length after ≤ length before
shorter before after command (found kind body) e here = omega (arith, ap length here, length-append body after)
shorter before after command (refused why) e here = absurd (cc)
shorter before after command ended e here = absurd (cc)

no_bytes : (xs : List ℕ) → reading xs ≡ ended → xs ≡ []
no_bytes xs e = let z : length xs ≡ 0 = grind (arith, nat_tests) in nil_from_length xs z

only_cut : (xs : List ℕ) (why : Refusal) → reading xs ≡ refused why → why ≡ RecordCut
only_cut xs why e = grind (arith, nat_tests)

stops_record : (xs : List ℕ) (kind : ℕ) (body : List ℕ) (b : BadRecord) (s : Result Command Refusal) → reading xs ≡ found kind body → command_of kind body ≡ s
    → admitted kind s ≡ Err b → Stops xs (Err b)
stops_record xs kind body b (Ok command) e d h = absurd (cc)
stops_record xs kind body b (Err why) e d h =
    let g : bad (Some kind) why ≡ b = cc in
    subst (λ (z : BadRecord). Stops xs (Err z)) g (inr (body, e, d))

stops_bad : (xs : List ℕ) (b : BadRecord) (r : Reading) → reading xs ≡ r → step r ≡ Err b → Stops xs (Err b)
stops_bad xs b (found kind body) e h = stops_record xs kind body b (command_of kind body) e refl h
stops_bad xs b (refused why) e h =
    let g : bad None why ≡ b = cc in
    let w = only_cut xs why e in
    subst (λ (z : BadRecord). Stops xs (Err z)) g (inl (e ∙ ap refused w, refl, w))
stops_bad xs b ended e h = absurd (cc)

-- all of it, where reading stops at a record
pub read_to_bad : (xs left : List ℕ) (commands : List Command) (b : BadRecord) → ReadTo xs left commands
    → step (reading left) ≡ Err b → ReadsWhole xs commands (Err b)
read_to_bad xs left commands b t e =
    record { records = t.records; left = left; spelled = t.spelled; decoded = t.decoded; stops = stops_bad left b (reading left) refl e }

ends : (kind : ℕ) (s : Result Command Refusal) → admitted kind s ≡ Ok None → ⊥
ends kind (Ok command) e = cc
ends kind (Err why) e = cc

stops_none : (xs : List ℕ) (r : Reading) → reading xs ≡ r → step r ≡ Ok None → xs ≡ []
stops_none xs (found kind body) e h = absurd (ends kind (command_of kind body) h)
stops_none xs (refused why) e h = absurd (cc)
stops_none xs ended e h = no_bytes xs e

-- all of it, where it ends
pub read_to_end : (xs left : List ℕ) (commands : List Command) → ReadTo xs left commands
    → step (reading left) ≡ Ok None → ReadsWhole xs commands (Ok tt)
read_to_end xs left commands t e =
    record { records = t.records; left = left; spelled = t.spelled; decoded = t.decoded; stops = stops_none left (reading left) refl e }
