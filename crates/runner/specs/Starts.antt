-- Start: who is admitted, and when it is refused.
use Rattle.std.specs.Prelude.{ℕ, zero, suc, ◌+◌, Bool, true, cond, ◌&&◌, is_ok, Some, None, Ok, Err, Option, Result, nat_lt}
use Rattle.platform.specs.declared.refusal.Refusal.{Refusal}
use Rattle.platform.specs.declared.refusal.Refusal.TheVariants.{BadWindow, TooFewPages}
use Rattle.platform.specs.Lists.{any_below}
use Rattle.platform.specs.Windows.{Pane}
use Rattle.books.specs.Intervals.{has_pool, book_of}
use Rattle.guests.specs.Rosters.{admit_after}
use Rattle.runner.specs.Enrolment.{enrollable_below}
use Rattle.runner.specs.States.{State}

-- guest g has a pool, and in it fewer than two pages to enrol below page n
abbrev pub short_guest : State → ℕ → ℕ → Bool
short_guest s n g = has_pool s.book.pools g && nat_lt (enrollable_below s.memory.mem (book_of s.book) (Some g) n) 2

-- one of the guests 1 to k is short
unfoldable pub any_short : State → ℕ → ℕ → Bool
any_short s n k = any_below (λ i. short_guest s n (i + 1)) k

-- guest g admitted if it has a pool
abbrev pub admit_one : State → ℕ → State
admit_one s g = record {
  window = s.window;
  memory = s.memory;
  book = s.book;
  guests = cond (has_pool s.book.pools g) (admit_after s.guests g) s.guests;
  started = s.started;
}

-- the guests 1 to k that have a pool, admitted upward
unfoldable pub admit_all : State → ℕ → State
admit_all s zero = s
admit_all s (suc k) = admit_one (admit_all s k) (k + 1)

-- refused without a window, or where some guest is short
abbrev pub start_by : State → Option Pane → Result (Unit {0}) Refusal
start_by s None = Err BadWindow
start_by s (Some w) = cond (any_short s w.count 8) (Err TooFewPages) (Ok tt)

abbrev pub start_answer : State → Result (Unit {0}) Refusal
start_answer s = start_by s s.window

abbrev pub begun : State → State
begun s = record { window = s.window; memory = s.memory; book = s.book; guests = s.guests; started = true }

-- all admitted, or, where it is refused, all as it was
abbrev pub start_after : State → State
start_after s = cond (is_ok (start_answer s)) (begun (admit_all s 8)) s
