-- The records of guests that are not admitted.
use Rattle.std.proofs.Common.{◌≡◌, ℕ, ◌-◌, ◌<◌, get_or, replicate, arith}
use mathlib.Core.Path.{fun_ext}
use Rattle.std.proofs.lemmas.List.{get_or-replicate}
use Rattle.std.proofs.lemmas.Bool.Decides.{nat_tests}
use Rattle.guests.specs.Rosters.{records_of, blank}

blank_record : (g : ℕ) → records_of (replicate 8 blank) g ≡ blank
blank_record g = let e : g - 1 < 8 → get_or (replicate 8 blank) (g - 1) blank ≡ blank = λ h. get_or-replicate 8 (g - 1) blank blank h in grind (arith, nat_tests, e)

-- all records blank
pub blank_records : records_of (replicate 8 blank) ≡ (λ _. blank)
blank_records = fun_ext blank_record
