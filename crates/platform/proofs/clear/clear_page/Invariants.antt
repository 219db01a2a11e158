use Rattle.std.proofs.Common.{◌≡◌, cond}
use Rattle.platform.specs.Memories.{cleared_to}
use Rattle.platform.proofs.clear.clear_page.Given as goal

abbrev pub invariant-loop-place : goal.invariant-loop-place
invariant-loop-place g l =
    g.M.Memory.contents l.memory
    ≡ cond ((g.M.Memory.contents l.initial.memory).has l.page) (cleared_to (g.M.Memory.contents l.initial.memory) l.page l.place) (g.M.Memory.contents l.initial.memory)
