use Rattle.std.proofs.Common.{◌≡◌, suc, ◌-◌, [], ◌∷◌, ◌++◌, Some, None, Ok, Err, vec_items, sym, subst, arith}
use Rattle.std.proofs.lemmas.Grind.{common_steps}
use Rattle.script.specs.Records.{reading}
use Rattle.script.specs.Scripts.{step, script_from}
use Rattle.script.specs.Laws.{ReadsWhole}
use Rattle.script.proofs.Laws.{read_more, shorter, read_to_end, read_to_bad}
use Rattle.script.proofs.whole.read_script.Goals as goal
use Rattle.script.proofs.whole.read_script.Goals.{in-Ok-None, in-Err}

pub records-preserved : goal.records-preserved
unfolding script_from
records-preserved c =
    let i = c.records.invariant in
    let xs = c.records.reader.rest.now in
    let ys = c.next_command.new.self.rest.now in
    let cs = vec_items c.records.commands in
    let command = c.in-Ok-Some.command in
    let e : step (reading xs) ≡ Ok (Some command) = cc in
    let items : vec_items c.push.new.self ≡ cs ++ command ∷ [] = c.in_ok-push-in-Ok-Some.ensures.items in
    let s = shorter xs ys command (reading xs) e c.next_command.ensures.law in
    let more : i.turns ≡ suc (i.turns - 1) = omega arith in
    record {
      bound = omega (arith, c.in_ok-push-in-Ok-Some.ensures.len);
      read = let r = read_more _ xs ys cs command (reading xs) i.read e c.next_command.ensures.law in grind (arith, common_steps);
      turns = i.turns - 1;
      enough = omega arith;
      said = grind (arith, common_steps);
    }

pub returns-clause-answer : goal.returns-clause-answer
unfolding script_from
returns-clause-answer c = elim c.match-next_command.branch [ in-Ok-None w ↦ grind (arith, common_steps) | in-Err w ↦ grind (arith, common_steps) ]

pub returns-clause-law : goal.returns-clause-law
returns-clause-law c =
    let i = c.records.invariant in
    let xs = c.records.reader.rest.now in
    let cs = vec_items c.records.commands in
    elim c.match-next_command.branch [
      | in-Ok-None w ↦ let e : step (reading xs) ≡ Ok None = cc in subst (ReadsWhole _ cs) (sym w.end-is) (read_to_end _ xs cs i.read e)
      | in-Err w ↦ let e : step (reading xs) ≡ Err w.in-Err.bad = cc in subst (ReadsWhole _ cs) (sym w.end-is) (read_to_bad _ xs cs w.in-Err.bad i.read e)
    ]
