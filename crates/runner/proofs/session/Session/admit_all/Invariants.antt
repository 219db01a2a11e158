use Rattle.std.proofs.Common.{◌≡◌, ◌+◌, ℕ}
use Rattle.runner.specs.States.{state}
use Rattle.runner.specs.Starts.{admit_all}
use Rattle.runner.proofs.session.Session.admit_all.Given as goal

-- the guests before this one are admitted
abbrev pub invariant-loop-guest : goal.invariant-loop-guest
invariant-loop-guest l = (k : ℕ) → l.guest ≡ k + 1 → state l.self ≡ admit_all (state l.initial.self) k
