use Rattle.keepers.proofs.ByMake.{stack_taken}
use Rattle.keepers.proofs.makes.stack_take.Goals as goal

pub returns : goal.returns
returns c = record { taken = c.take.ensures.taken; chosen = stack_taken c.args.stack.now c.take.new.self c.take.result c.args.guest c.take.ensures.chosen c.take.ensures.order }
