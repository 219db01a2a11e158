use Rattle.keepers.proofs.ByMake.{stack_enrolled}
use Rattle.keepers.proofs.makes.stack_enrol.Goals as goal

pub returns : goal.returns
returns c = record { answer = c.enrol.ensures.answer; after = c.enrol.ensures.after; stack = stack_enrolled c.args.stack.now c.enrol.new.self c.enrol.result c.args.guest c.args.page c.enrol.ensures.order }
