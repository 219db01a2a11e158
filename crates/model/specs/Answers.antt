-- What a call is answered: a reply, or why it was refused.
use Rattle.std.specs.Prelude.{Result}
use Rattle.platform.specs.declared.refusal.Refusal.{Refusal}
use Rattle.model.specs.declared.calls.Reply.{Reply}

abbrev pub Answer : Type 0
Answer = Result Reply Refusal
