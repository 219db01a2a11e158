-- A refusal changes nothing.
use Rattle.std.proofs.Common.{◌≡◌, true, is_err, rules}
use Rattle.script.specs.declared.command.Command.{Command}
use Rattle.script.specs.declared.command.Command.TheVariants.{Window, Present, Word, Pool, Grant, Start, Schedule, Switch, PagingOn, PagingOff, Flush, FlushPage, Fault, Load, Store, Status}
use Rattle.runner.specs.States.{State}
use Rattle.runner.specs.Turns.{outcome_of, perform}

pub refused_same : (s : State) (c : Command) → is_err (outcome_of (perform s c).step) ≡ true → (perform s c).after ≡ s
refused_same s (Window pages) e = search rules
refused_same s (Present pages) e = search rules
refused_same s (Word page place word) e = search rules
refused_same s (Pool g pages) e = search rules
refused_same s (Grant g pages right) e = search rules
refused_same s Start e = search rules
refused_same s (Schedule g) e = search rules
refused_same s (Switch base) e = search rules
refused_same s PagingOn e = search rules
refused_same s PagingOff e = search rules
refused_same s Flush e = search rules
refused_same s (FlushPage address) e = search rules
refused_same s (Fault address access) e = search rules
refused_same s (Load address) e = search rules
refused_same s (Store address word) e = search rules
refused_same s Status e = search rules
