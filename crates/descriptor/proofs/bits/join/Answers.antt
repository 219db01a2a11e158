use Rattle.std.proofs.Common.{◌≡◌, ℕ, ◌*◌, ◌%◌, ◌^◌, ap, ◌∙◌, mod-eq_of_lt}
use lib.Bits.{bit_or}
use Rattle.std.proofs.lemmas.Nat.{or_shifted}
use Rattle.descriptor.proofs.bits.join.Goals as goal

pub returns : goal.returns
returns c =
    let m : c.args.high * 2 ^ c.args.width % 2 ^ 32 ≡ c.args.high * 2 ^ c.args.width = mod-eq_of_lt c.requires.1.1 in
    record { answer = ap (λ (x : ℕ). bit_or x c.args.low) m ∙ or_shifted c.args.high c.args.width c.args.low c.requires.0 }
