-- What each command does: the state after it, what it is answered, and whether the program goes on.
use Rattle.std.specs.Prelude.{ℕ, true, false, cond, Ok, Err, Result}
use Rattle.std.specs.declared.ops.ControlFlow.{ControlFlow}
use Rattle.std.specs.declared.ops.ControlFlow.TheVariants.{Continue, Break}
use Rattle.platform.specs.declared.refusal.Refusal.{Refusal}
use Rattle.platform.specs.declared.refusal.Refusal.TheVariants.{UnknownKind, WrongPhase}
use Rattle.platform.specs.declared.span.Span.{Span}
use Rattle.platform.specs.Memories.{write_answer}
use Rattle.platform.specs.Rights.{right_numbered}
use Rattle.platform.specs.Windows.{window_answer}
use Rattle.memories.specs.Listed.{Catalog, list_answer, list_after, catalog_written}
use Rattle.books.specs.declared.grant.Grant.{Grant}
use Rattle.books.specs.Intervals.{Ledger, grant_answer, grant_after, pool_answer, pool_after}
use Rattle.guests.specs.Rosters.{Roster, schedule_answer, schedule_after, call_answer, switch_after, paging_after, status_answer}
use Rattle.script.specs.declared.command.Command.{Command}
use Rattle.script.specs.declared.command.Command.TheVariants.{Window, Present, Word, Pool, Start, Schedule, Switch, PagingOn, PagingOff, Flush, FlushPage, Fault, Load, Store, Status}
use Rattle.listing.specs.declared.reply.Reply.{Reply}
use Rattle.listing.specs.declared.reply.Reply.TheVariants.{Done, Pair}
use Rattle.runner.specs.States.{State, window_set}
use Rattle.runner.specs.Setups.{unit_answer}
use Rattle.runner.specs.Starts.{start_answer, start_after}

-- what came of a record: a reply, or the refusal
abbrev pub Outcome : Type 0
Outcome = Result Reply Refusal

pub record Turn : Type 0 where
  pub after : State
  pub step : ControlFlow Outcome Outcome

-- the program goes on
abbrev pub goes : State → Outcome → Turn
goes s o = record { after = s; step = Continue o }

-- the program stops
abbrev pub ends : State → Outcome → Turn
ends s o = record { after = s; step = Break o }

-- what came of a record, whether the program goes on or stops
abbrev pub outcome_of : ControlFlow Outcome Outcome → Outcome
outcome_of (Continue o) = o
outcome_of (Break o) = o

-- an answer that is only whether the call was accepted
abbrev pub done : Result (Unit {0}) Refusal → Outcome
done (Ok x) = Ok Done
done (Err e) = Err e

-- an answer of two words
abbrev pub paired : Result (ℕ × ℕ) Refusal → Outcome
paired (Ok x) = Ok (Pair x.0 x.1)
paired (Err e) = Err e

-- the program stops at a start that is refused
abbrev pub begun_or_not : Result (Unit {0}) Refusal → ControlFlow Outcome Outcome
begun_or_not (Ok x) = Continue (Ok Done)
begun_or_not (Err e) = Break (Err e)

-- a record that sets up is refused after start
abbrev pub setting_up : State → Turn → Turn
setting_up s t = cond s.started (goes s (Err WrongPhase)) t

-- a call is refused before start
abbrev pub calling : State → Turn → Turn
calling s t = cond s.started t (goes s (Err WrongPhase))

-- the calls that touch tables are not served yet
abbrev pub unserved : State → Turn
unserved s = ends s (Err UnknownKind)

abbrev pub grant : ℕ → Span → ℕ → Grant
grant g pages right = record { guest = g; span = pages; right = right_numbered right }

abbrev pub with_memory : State → Catalog → State
with_memory s m = record { window = s.window; memory = m; book = s.book; guests = s.guests; started = s.started }

abbrev pub with_book : State → Ledger → State
with_book s b = record { window = s.window; memory = s.memory; book = b; guests = s.guests; started = s.started }

abbrev pub with_guests : State → Roster → State
with_guests s r = record { window = s.window; memory = s.memory; book = s.book; guests = r; started = s.started }

abbrev pub perform : State → Command → Turn
perform s (Window pages) = setting_up s (goes (window_set s (window_answer pages.first pages.count)) (done (unit_answer (window_answer pages.first pages.count))))
perform s (Present pages) = setting_up s (goes (with_memory s (list_after s.memory pages)) (done (list_answer s.memory pages)))
perform s (Word page place word) = setting_up s (goes (with_memory s (catalog_written s.memory page place word)) (done (write_answer s.memory.mem page place)))
perform s (Pool g pages) = setting_up s (goes (with_book s (pool_after s.book g pages)) (done (pool_answer s.book g pages)))
perform s (Command.Grant g pages right) = setting_up s (goes (with_book s (grant_after s.book (grant g pages right))) (done (grant_answer s.book (grant g pages right))))
perform s Start = setting_up s (record { after = start_after s; step = begun_or_not (start_answer s) })
perform s (Schedule g) = calling s (goes (with_guests s (schedule_after s.guests g)) (done (schedule_answer s.guests g)))
perform s (Switch base) = calling s (goes (with_guests s (switch_after s.guests base)) (done (call_answer s.guests)))
perform s PagingOn = calling s (goes (with_guests s (paging_after s.guests true)) (done (call_answer s.guests)))
perform s PagingOff = calling s (goes (with_guests s (paging_after s.guests false)) (done (call_answer s.guests)))
perform s Flush = unserved s
perform s (FlushPage address) = unserved s
perform s (Fault address access) = unserved s
perform s (Load address) = unserved s
perform s (Store address word) = unserved s
perform s Status = calling s (goes s (paired (status_answer s.guests)))
