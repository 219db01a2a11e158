use Rattle.std.proofs.Common.{◌≡◌, ℕ, ◌+◌, length, drop, ap, ◌∙◌, arith, drop-drop}
use Rattle.std.proofs.lemmas.Grind.{common_steps}
use Rattle.script.proofs.reader.ScriptReader.next.Goals as goal

-- what is left lies behind the four bytes and the body
pub returns-in_ok-body-in-len4-up-clause-after : goal.returns-in_ok-body-in-len4-up-clause-after
returns-in_ok-body-in-len4-up-clause-after c =
    let xs = c.args.self.now.rest.now in
    let n = c.in_ok-body_size-in-len4-up.body_size in
    let cut : c.in_ok-body-in-len4-up.rest.now ≡ drop n (drop 4 xs) = grind (arith, common_steps) in
    let size : n ≡ length c.in_ok-body-in-len4-up.body.now = grind (arith, common_steps) in
    cut ∙ drop-drop n 4 xs ∙ ap (λ (k : ℕ). drop (4 + k) xs) size
