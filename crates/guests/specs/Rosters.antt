-- All guests' records, and what the calls that touch no table do to them.
use Rattle.std.specs.Prelude.{ℕ, ◌-◌, ◌/◌, Bool, true, false, cond, List, is_ok, Some, None, Ok, Err, Option, Result, ◌==◌, slice_index_or}
use Rattle.platform.specs.declared.refusal.Refusal.{Refusal}
use Rattle.platform.specs.declared.refusal.Refusal.TheVariants.{GuestOutOfRange, AlreadySetUp, NotAdmitted, NoGuestRuns}
use Rattle.platform.specs.Guests.{is_guest}
use Rattle.guests.specs.declared.record.GuestRecord.{GuestRecord}
use Rattle.guests.specs.declared.table.Guests.{Guests}

-- the record of each guest, and the guest that runs, if any
pub record Roster : Type 0 where
  pub of : ℕ → GuestRecord
  pub running : Option ℕ

-- not admitted, paging off, base 0, no abort yet
abbrev pub blank : GuestRecord
blank = record { admitted = false; paging = false; base = 0; code = 0; address = 0 }

-- guest 1 has the first record, and a number that names no guest has a blank one
abbrev pub records_of : List GuestRecord → ℕ → GuestRecord
records_of xs g = cond (is_guest g) (slice_index_or xs (g - 1) blank) blank

abbrev pub roster : Guests → Roster
roster t = record { of = records_of t.records; running = t.running }

abbrev pub fresh : Roster
fresh = record { of = λ _. blank; running = None }

-- one guest's record changed
abbrev pub with_record : Roster → ℕ → GuestRecord → Roster
with_record r g x = record { of = λ h. cond (h == g) x (r.of h); running = r.running }

abbrev pub admitted : GuestRecord → GuestRecord
admitted x = record { admitted = true; paging = x.paging; base = x.base; code = x.code; address = x.address }

abbrev pub based : GuestRecord → ℕ → GuestRecord
based x b = record { admitted = x.admitted; paging = x.paging; base = b; code = x.code; address = x.address }

abbrev pub paged : GuestRecord → Bool → GuestRecord
paged x on = record { admitted = x.admitted; paging = on; base = x.base; code = x.code; address = x.address }

abbrev pub admit_answer : Roster → ℕ → Result (Unit {0}) Refusal
admit_answer r g = cond (is_guest g) (cond (r.of g).admitted (Err AlreadySetUp) (Ok tt)) (Err GuestOutOfRange)

abbrev pub admit_after : Roster → ℕ → Roster
admit_after r g = cond (is_ok (admit_answer r g)) (with_record r g (admitted (r.of g))) r

abbrev pub schedule_answer : Roster → ℕ → Result (Unit {0}) Refusal
schedule_answer r g = cond (is_guest g) (cond (r.of g).admitted (Ok tt) (Err NotAdmitted)) (Err GuestOutOfRange)

abbrev pub schedule_after : Roster → ℕ → Roster
schedule_after r g = cond (is_ok (schedule_answer r g)) (record { of = r.of; running = Some g }) r

-- where the record of the guest that runs stands
abbrev pub running_place : Option ℕ → Result ℕ Refusal
running_place None = Err NoGuestRuns
running_place (Some g) = Ok (g - 1)

-- the running guest's record changed; all as it was where none runs
abbrev pub on_running : Roster → Option ℕ → (GuestRecord → GuestRecord) → Roster
on_running r None f = r
on_running r (Some g) f = with_record r g (f (r.of g))

-- a guest's call is refused where no guest runs
abbrev pub call_answer_of : Option ℕ → Result (Unit {0}) Refusal
call_answer_of None = Err NoGuestRuns
call_answer_of (Some g) = Ok tt

abbrev pub call_answer : Roster → Result (Unit {0}) Refusal
call_answer r = call_answer_of r.running

-- the base is kept as its page: the low 12 bits do not count
abbrev pub switch_after : Roster → ℕ → Roster
switch_after r b = on_running r r.running (λ x. based x (b / 4096))

abbrev pub paging_after : Roster → Bool → Roster
paging_after r on = on_running r r.running (λ x. paged x on)

abbrev pub status_of : Roster → Option ℕ → Result (ℕ × ℕ) Refusal
status_of r None = Err NoGuestRuns
status_of r (Some g) = Ok ((r.of g).code, (r.of g).address)

-- the code and the address of the running guest's fault status
abbrev pub status_answer : Roster → Result (ℕ × ℕ) Refusal
status_answer r = status_of r r.running
