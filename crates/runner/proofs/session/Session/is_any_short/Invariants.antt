use Rattle.std.proofs.Common.{◌≡◌, ◌+◌, ℕ, false}
use Rattle.runner.specs.States.{state}
use Rattle.runner.specs.Starts.{any_short}
use Rattle.runner.proofs.session.Session.is_any_short.Given as goal

-- no guest before this one is short
abbrev pub invariant-loop-guest : goal.invariant-loop-guest
invariant-loop-guest l = (k : ℕ) → l.guest ≡ k + 1 → any_short (state l.self) l.count k ≡ false
