use Rattle.walk.proofs.Leading.{answers_lead, leads_answered}
use Rattle.walk.proofs.laws.walk_answers_where_tables_lead.Goals as goal

pub returns : goal.returns
returns c = record { only = answers_lead; every = leads_answered }
