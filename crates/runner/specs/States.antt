-- What a script has set up, and the machine that it then runs.
use Rattle.std.specs.Prelude.{Bool, false, Some, None, Ok, Err, Option, Result}
use Rattle.std.specs.Option.{option_map}
use Rattle.platform.specs.declared.refusal.Refusal.{Refusal}
use Rattle.platform.specs.Windows.{Pane, pane}
use Rattle.memories.specs.Listed.{Catalog, catalog, empty}
use Rattle.books.specs.Intervals.{Ledger, blank}
use Rattle.books.specs.Ledgers.{ledger}
use Rattle.guests.specs.Rosters.{Roster, roster, fresh}
use Rattle.runner.specs.declared.session.Session.{Session}

-- the last accepted window, the memory, the rights book and the guests' records, and whether start was accepted
pub record State : Type 0 where
  pub window : Option Pane
  pub memory : Catalog
  pub book : Ledger
  pub guests : Roster
  pub started : Bool

abbrev pub state : Session → State
state s = record { window = option_map pane s.window; memory = catalog s.memory; book = ledger s.book; guests = roster s.guests; started = s.started }

-- nothing is set up yet
abbrev pub opening : State
opening = record { window = None; memory = empty; book = blank; guests = fresh; started = false }

-- a window that was accepted takes the place of the one before
abbrev pub window_set : State → Result Pane Refusal → State
window_set s (Ok w) = record { window = Some w; memory = s.memory; book = s.book; guests = s.guests; started = s.started }
window_set s (Err e) = s
