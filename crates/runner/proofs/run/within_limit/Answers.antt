use Rattle.std.proofs.Common.{rules, arith}
use Rattle.std.proofs.lemmas.List.{take_min}
use Rattle.runner.proofs.run.within_limit.Goals as goal

pub returns : goal.returns
returns c = let e = take_min 16384 c.args.input.now in grind (arith, rules, e)
