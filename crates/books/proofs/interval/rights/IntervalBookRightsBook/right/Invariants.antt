use Rattle.std.proofs.Common.{◌≡◌, drop, vec_items}
use Rattle.platform.specs.Rights.{greater}
use Rattle.books.specs.Intervals.{granted}
use Rattle.books.proofs.interval.rights.IntervalBookRightsBook.right.Given as goal

-- the best so far and what the other grants give
abbrev pub invariant-loop-grant : goal.invariant-loop-grant
invariant-loop-grant l = granted (vec_items l.self.grants) l.guest l.page ≡ greater l.best (granted (drop l.grant-index (vec_items l.self.grants)) l.guest l.page)
