-- The lines of a script, one command after another.
use Rattle.std.proofs.Common.{◌≡◌, ℕ, ◌+◌, ◌<◌, ◌≤◌, List, [], ◌∷◌, ◌++◌, length, get_or, drop, sym, ap, ◌∙◌, append_assoc, append-nil, Ok, Err, Result}
use Rattle.std.specs.declared.ops.ControlFlow.{ControlFlow}
use Rattle.std.specs.declared.ops.ControlFlow.TheVariants.{Continue, Break}
use Rattle.std.proofs.lemmas.List.{at_drop_more, at_drop_all}
use Rattle.script.specs.declared.command.Command.{Command}
use Rattle.script.specs.declared.whole.BadRecord.{BadRecord}
use Rattle.script.specs.Kinds.{kind_number}
use Rattle.script.specs.Commands.{kind_of}
use Rattle.listing.specs.declared.line.Line.{Line}
use Rattle.runner.specs.States.{State}
use Rattle.runner.specs.Turns.{Outcome, perform}
use Rattle.runner.specs.Reports.{line, known, shown_kind, last_line, turn_lines, lines_from}

-- all lines are those so far, `ls`, and those of the commands from the i-th on
module _ (s : State) (n : ℕ) (cs : List Command) (e : Result (Unit {0}) BadRecord) (i : ℕ) (all ls : List Line) (inv : all ≡ ls ++ lines_from s n (drop i cs) e) where
  step : (c : Command) → i < length cs → c ≡ get_or cs i c
      → all ≡ ls ++ turn_lines n (kind_number (kind_of c)) (perform s c).step (lines_from (perform s c).after (n + 1) (drop (i + 1) cs) e)
  unfolding lines_from
  step c l r =
      inv
      ∙ ap (λ (ys : List Line). ls ++ ys) (at_drop_more (λ ys. lines_from s n ys e) cs i c l)
      ∙ ap (λ (d : Command). ls ++ turn_lines n (kind_number (kind_of d)) (perform s d).step (lines_from (perform s d).after (n + 1) (drop (i + 1) cs) e)) (sym r)

  -- the i-th command was served, and its line put down
  module _ (c : Command) (within : i < length cs) (read : c ≡ get_or cs i c)
      (after : State) (left : after ≡ (perform s c).after)
      (o : Outcome) (out : List Line) (put : out ≡ ls ++ line n (kind_number (kind_of c)) o ∷ []) where
    turned : (t : ControlFlow Outcome Outcome) → t ≡ (perform s c).step
        → all ≡ ls ++ turn_lines n (kind_number (kind_of c)) t (lines_from after (n + 1) (drop (i + 1) cs) e)
    turned t said =
        step c within read
        ∙ (λ j. ls ++ turn_lines n (kind_number (kind_of c)) (sym said j) (lines_from (sym left j) (n + 1) (drop (i + 1) cs) e))

    pub stopped : Break o ≡ (perform s c).step → out ≡ all
    stopped said = put ∙ sym (turned (Break o) said)

    pub went_on : Continue o ≡ (perform s c).step → all ≡ out ++ lines_from after (n + 1) (drop (i + 1) cs) e
    went_on said =
        turned (Continue o) said
        ∙ sym (append_assoc ls (line n (kind_number (kind_of c)) o ∷ []) (lines_from after (n + 1) (drop (i + 1) cs) e))
        ∙ ap (λ (ys : List Line). ys ++ lines_from after (n + 1) (drop (i + 1) cs) e) (sym put)

  -- no command is left
  ended : length cs ≤ i → all ≡ ls ++ last_line n e
  unfolding lines_from
  ended l = inv ∙ ap (λ (ys : List Line). ls ++ ys) (at_drop_all (λ ys. lines_from s n ys e) cs i l)

  pub ended_whole : length cs ≤ i → e ≡ Ok tt → ls ≡ all
  ended_whole l h = sym (ended l ∙ ap (λ (x : Result (Unit {0}) BadRecord). ls ++ last_line n x) h ∙ append-nil ls)

  pub ended_bad : length cs ≤ i → (m kind : ℕ) (bad : BadRecord) → e ≡ Err bad → m ≡ n → kind ≡ shown_kind bad
      → (out : List Line) → out ≡ ls ++ line m kind (Err (known kind bad.refusal)) ∷ [] → out ≡ all
  ended_bad l m kind bad h p q out r =
      r
      ∙ (λ j. ls ++ line (p j) (q j) (Err (known (q j) bad.refusal)) ∷ [])
      ∙ sym (ended l ∙ ap (λ (x : Result (Unit {0}) BadRecord). ls ++ last_line n x) h)
