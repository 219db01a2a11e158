-- Answers that say only whether a call was accepted.
use Rattle.std.specs.Prelude.{Ok, Err, Result}
use Rattle.platform.specs.declared.refusal.Refusal.{Refusal}

abbrev pub unit_answer : {A : Type 0} → Result A Refusal → Result (Unit {0}) Refusal
unit_answer (Ok x) = Ok tt
unit_answer (Err e) = Err e
