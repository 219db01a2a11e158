-- What an interval book holds.
use Rattle.std.specs.Prelude.{vec_items}
use Rattle.books.specs.declared.interval.IntervalBook.{IntervalBook}
use Rattle.books.specs.Intervals.{Ledger}

abbrev pub ledger : IntervalBook → Ledger
ledger b = record { grants = vec_items b.grants; pools = b.pools }
