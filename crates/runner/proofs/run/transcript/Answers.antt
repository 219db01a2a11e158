use Rattle.std.proofs.Common.{◌+◌, ◌∷◌, ◌++◌, [], Err, sym, vec_items, arith, ap, ◌∙◌, rules}
use Rattle.platform.specs.declared.refusal.Refusal.{Refusal}
use Rattle.listing.specs.declared.line.Line.{Line}
use Rattle.runner.specs.Reports.{line}
use Rattle.runner.specs.States.{state}
use Rattle.runner.proofs.Lines.{stopped, went_on, ended_whole, ended_bad}
use Rattle.runner.proofs.run.transcript.Goals as goal
use Rattle.runner.proofs.run.transcript.Goals.{in-Err, in_default}

pub returns-in-Break : goal.returns-in-Break
returns-in-Break c =
    let ls = vec_items c.commands.lines in
    record {
      answer = stopped (state c.commands.session) (c.commands.i + 1) (vec_items c.args.script.now.commands) c.args.script.now.end c.commands.i _ ls c.commands.invariant.all_lines
          _ (omega arith) (search rules) (state c.perform.new.self) c.perform.ensures.after c.in-Break.outcome (vec_items c.push_reserved-in-Break.new.self)
          (c.push_reserved-in-Break.ensures.items ∙ ap (λ (x : Line). ls ++ x ∷ []) c.line-in-Break.ensures.answer)
          (sym c.in-Break.is ∙ c.perform.ensures.answer);
    }

pub commands-preserved : goal.commands-preserved
commands-preserved c =
    let ls = vec_items c.commands.lines in
    record {
      all_lines = went_on (state c.commands.session) (c.commands.i + 1) (vec_items c.args.script.now.commands) c.args.script.now.end c.commands.i _ ls c.commands.invariant.all_lines
          _ (omega arith) (search rules) (state c.perform.new.self) c.perform.ensures.after c.in-Continue.outcome (vec_items c.push_reserved.new.self)
          (c.push_reserved.ensures.items ∙ ap (λ (x : Line). ls ++ x ∷ []) c.line.ensures.answer)
          (sym c.in-Continue.is ∙ c.perform.ensures.answer);
      each_one = omega arith;
      has_room = omega arith;
    }

pub returns : goal.returns
returns c =
    let ls = vec_items c.commands.lines in
    elim c.match-script.branch [
      | in-Err w ↦ record {
        answer = ap (λ v. vec_items v) w.lines-is ∙ ended_bad (state c.commands.session) (c.commands.i + 1) (vec_items c.args.script.now.commands) c.args.script.now.end c.commands.i _ ls c.commands.invariant.all_lines
            (omega arith) (w.len-in-Err.result + 1) w.unwrap_or-kind.result w.in-Err.bad w.in-Err.is (omega arith) (search rules) _
            (w.push_reserved-in-Err.ensures.items ∙ ap (λ (why : Refusal). ls ++ line (w.len-in-Err.result + 1) w.unwrap_or-kind.result (Err why) ∷ []) w.known_refusal.ensures.answer);
      }
      | in_default w ↦ record {
        answer = ap (λ v. vec_items v) w.lines-is ∙ ended_whole (state c.commands.session) (c.commands.i + 1) (vec_items c.args.script.now.commands) c.args.script.now.end c.commands.i _ ls c.commands.invariant.all_lines
            (omega arith) w.in_default.is;
      }
    ]
