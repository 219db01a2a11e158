use Rattle.std.proofs.Common.{◌≡◌, take}
use Rattle.std.specs.List.{count_by}
use Rattle.keepers.proofs.marks.share.PageMarksPageShare.free_count.Given as goal

-- the free marks so far
abbrev pub invariant-loop-mark : goal.invariant-loop-mark
invariant-loop-mark l = l.free ≡ count_by (λ m. m.free) (take l.mark-index l.mark-items)
