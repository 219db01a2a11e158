use Rattle.std.proofs.Common.{◌≡◌, ℕ, suc, ◌+◌, ◌*◌, ◌≤◌, length, vec_items, vec_len}
use Rattle.script.specs.Scripts.{script_of, script_from}
use Rattle.script.proofs.Laws.{ReadTo, preceded}
use Rattle.script.proofs.whole.read_script.Given as goal

-- A command took four bytes at least; the commands so far are those of the records before what is left;
-- with those of the rest they are all, and turns are left for the rest.
abbrev pub invariant-records : goal.invariant-records
invariant-records l =
    record {
      bound : 4 * vec_len l.commands + length l.reader.rest.now ≤ length l.input;
      read : ReadTo l.input l.reader.rest.now (vec_items l.commands);
      turns : ℕ;
      enough : length l.reader.rest.now ≤ turns;
      said : script_of l.input ≡ preceded (vec_items l.commands) (script_from (suc turns) l.reader.rest.now);
    }

abbrev pub decreases-records : goal.decreases-records
decreases-records l = length l.reader.rest.now
