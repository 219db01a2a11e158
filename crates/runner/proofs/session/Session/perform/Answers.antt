use Rattle.std.proofs.Common.{◌≡◌, true, sym, ap, ◌∙◌, is_err}
use Rattle.std.specs.declared.ops.ControlFlow.{ControlFlow}
use Rattle.runner.specs.States.{State, state}
use Rattle.runner.specs.Turns.{Outcome, outcome_of, perform}
use Rattle.runner.proofs.Refused.{refused_same}
use Rattle.script.specs.declared.command.Command.{Command}
use Rattle.runner.proofs.session.Session.perform.Goals as goal

same : (s t : State) (r : ControlFlow Outcome Outcome) (c : Command) → r ≡ (perform s c).step → t ≡ (perform s c).after → is_err (outcome_of r) ≡ true → t ≡ s
same s t r c a b e = b ∙ refused_same s c (ap (λ (x : ControlFlow Outcome Outcome). is_err (outcome_of x)) (sym a) ∙ e)

pub returns-then-self : goal.returns-then-self
returns-then-self c =
    let s = state c.args.self.now in
    let a = c.call.ensures.answer in
    let b = c.call.ensures.after in
    record { answer = a; after = b; same = same s (state c.call.new.self) c.call.result c.args.command a b }

pub returns-else-self : goal.returns-else-self
returns-else-self c =
    let s = state c.args.self.now in
    let a = c.set_up.ensures.answer in
    let b = c.set_up.ensures.after in
    record { answer = a; after = b; same = same s (state c.set_up.new.self) c.set_up.result c.args.command a b }
