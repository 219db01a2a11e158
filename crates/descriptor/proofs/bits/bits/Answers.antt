use Rattle.std.proofs.Common.{◌≡◌, ℕ, ◌+◌, ◌-◌, ◌*◌, ◌/◌, ◌%◌, ◌^◌, ap, ◌∙◌, one-mul, arith, lit<}
use lib.Bits.{bit_and}
use Rattle.std.proofs.lemmas.Nat.{and_mask, shl_whole}
use Rattle.descriptor.proofs.bits.bits.Goals as goal

pub returns : goal.returns
returns c =
    let k = c.args.high + 1 - c.args.low in
    let w = c.args.word / 2 ^ c.args.low in
    let m : 1 * 2 ^ k % 2 ^ 64 ≡ 2 ^ k = shl_whole 1 1 k 64 (lit< tt) (omega arith) ∙ one-mul (2 ^ k) in
    record { answer = ap (λ (x : ℕ). bit_and w (x - 1)) m ∙ and_mask w k }
