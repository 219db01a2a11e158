use Rattle.std.proofs.Common.{sym, arith}
use Rattle.runner.specs.States.{state}
use Rattle.runner.proofs.Counts.{short_none, short_here, short_next}
use Rattle.runner.proofs.session.Session.is_any_short.Goals as goal

pub loop-guest-init : goal.loop-guest-init
loop-guest-init c = short_none (state c.args.self.now) c.args.count

pub returns-then-is_short : goal.returns-then-is_short
returns-then-is_short c =
    record { answer = sym (short_here (state c.args.self.now) c.args.count c.loop-guest.guest 8 (omega arith) (omega arith) (sym c.if-is_short.ensures.answer)) }

pub loop-guest-preserved : goal.loop-guest-preserved
loop-guest-preserved c = λ k e. short_next (state c.args.self.now) c.args.count c.loop-guest.guest k (omega arith) c.loop-guest.invariant (sym c.if-is_short.ensures.answer) e

pub returns : goal.returns
returns c = record { answer = sym (c.loop-guest.invariant 8 (omega arith)) }
