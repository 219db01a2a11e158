use Rattle.std.proofs.Common.{◌∙◌, arith}
use Rattle.runner.specs.States.{state}
use Rattle.runner.proofs.Counts.{admit_none, admit_next}
use Rattle.runner.proofs.session.Session.admit_all.Goals as goal

pub loop-guest-init : goal.loop-guest-init
loop-guest-init c = admit_none (state c.args.self.now)

pub loop-guest-preserved : goal.loop-guest-preserved
loop-guest-preserved c =
    λ k e. c.admit_pooled.ensures.after ∙ admit_next (state c.args.self.now) (state c.loop-guest.self) c.loop-guest.guest k (omega arith) c.loop-guest.invariant e

pub returns : goal.returns
returns c = record { after = c.loop-guest.invariant 8 (omega arith) }
