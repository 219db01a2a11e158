use Rattle.keepers.proofs.ByMake.{stack_given}
use Rattle.keepers.proofs.makes.stack_give.Goals as goal

pub returns : goal.returns
returns c = record { answer = c.give.ensures.answer; after = c.give.ensures.after; stack = stack_given c.args.stack.now c.give.new.self c.give.result c.args.guest c.args.page c.give.ensures.order }
