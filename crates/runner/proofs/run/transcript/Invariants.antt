use Rattle.std.proofs.Common.{◌≡◌, ◌+◌, ◌≤◌, ◌++◌, drop, vec_items, vec_len, vec_capacity}
use Rattle.script.specs.Scripts.{contents}
use Rattle.runner.specs.States.{state}
use Rattle.runner.specs.Reports.{lines_from, lines_of}
use Rattle.runner.proofs.run.transcript.Given as goal

-- the lines so far, with those of the other commands, are all; each command has one, and there is room for one more
abbrev pub invariant-commands : goal.invariant-commands
invariant-commands l =
    record {
      all_lines : lines_of (contents l.script) ≡ vec_items l.lines ++ lines_from (state l.session) (l.i + 1) (drop l.i (vec_items l.script.commands)) l.script.end;
      each_one : vec_len l.lines ≡ l.i;
      has_room : vec_len l.script.commands + 1 ≤ vec_capacity l.lines;
    }
