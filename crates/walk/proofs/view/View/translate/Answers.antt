use Rattle.std.proofs.Common.{rules}
use Rattle.walk.proofs.view.View.translate.Goals as goal
use Rattle.walk.proofs.Landing.{allowed}

pub returns-clause-law : goal.returns-clause-law
returns-clause-law g c = allowed _ _ _ c.args.self.now.guest c.args.base c.args.va c.args.access (g.met.B.RightsBook.pools c.args.self.now.book.now) _ (search rules)
