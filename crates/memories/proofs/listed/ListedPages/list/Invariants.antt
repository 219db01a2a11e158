use Rattle.std.proofs.Common.{◌≡◌, ◌-◌}
use Rattle.memories.specs.Listed.{catalog, with_blanks}
use Rattle.memories.proofs.listed.ListedPages.list.Given as goal

abbrev pub invariant-loop-page : goal.invariant-loop-page
invariant-loop-page l = catalog l.self ≡ with_blanks (catalog l.initial.self) l.fn.span.first (l.page - l.fn.span.first)
