-- What std prints of a number in capital hexadecimal digits, padded with zeros.
use Rattle.std.proofs.Common.{◌≡◌, ℕ, zero, suc, ◌+◌, ◌-◌, ◌/◌, ◌%◌, ◌^◌, ◌<◌, ◌≢◌, Bool, true, false, nat_eq, List, [], ◌∷◌, ◌++◌, length, replicate, Some, refl, sym, ap, ◌∙◌, append-nil, arith}
use Rattle.std.proofs.Math.Nat.{pow-succ'}
use Rattle.std.proofs.lemmas.Bool.Decides.{nat_tests}
use Rattle.std.proofs.lemmas.Fmt as lemmas
use Rattle.std.specs.Fmt.{digits, digits_onto, digits_output, styled_digits_output, padded_integral, format_spec, char_count}
use Rattle.std.specs.Option.{option_map}
use Rattle.listing.specs.Digits.{hex_digit, hex_byte, hex_word}

-- the last k digits of n, before what follows them
abbrev hex_onto : ℕ → ℕ → List ℕ → List ℕ
hex_onto zero n acc = acc
hex_onto (suc k) n acc = hex_onto k (n / 16) (hex_digit (n % 16) ∷ acc)

-- a text with as many zeros before it as make it m long
abbrev zero_filled : ℕ → List ℕ → List ℕ
zero_filled m text = replicate (m - length text) 48 ++ text

zero_more : (k : ℕ) (acc : List ℕ) → replicate k 48 ++ 48 ∷ acc ≡ 48 ∷ replicate k 48 ++ acc
zero_more zero acc = refl
zero_more (suc k) acc = ap (λ (xs : List ℕ). 48 ∷ xs) (zero_more k acc)

zeros : (k : ℕ) (acc : List ℕ) → hex_onto k 0 acc ≡ replicate k 48 ++ acc
zeros zero acc = refl
zeros (suc k) acc = zeros k (48 ∷ acc) ∙ zero_more k acc

-- std's digits, from the last one on
module _ (j n : ℕ) (acc : List ℕ) where
  last : n / 16 ≡ 0 → digits_onto (suc j) 16 true n acc ≡ hex_digit (n % 16) ∷ acc
  last e = grind (arith, nat_tests)

  more : n / 16 ≢ 0 → digits_onto (suc j) 16 true n acc ≡ digits_onto j 16 true (n / 16) (hex_digit (n % 16) ∷ acc)
  more e = grind (arith, nat_tests)

-- a last digit, with k zeros before it
short : (k d : ℕ) (acc text : List ℕ) → text ≡ d ∷ acc → zero_filled (suc k + length acc) text ≡ replicate k 48 ++ d ∷ acc
short k d acc text e = ap (zero_filled (suc k + length acc)) e ∙ ap (λ (m : ℕ). replicate m 48 ++ d ∷ acc) (omega arith)

-- so filled with zeros they are all k + 1 digits
filled : (k j n : ℕ) (acc : List ℕ) → k < j → n < 16 ^ suc k → zero_filled (suc k + length acc) (digits_onto j 16 true n acc) ≡ hex_onto (suc k) n acc
filled k zero n acc f h = absurd (omega arith)
filled zero (suc j) n acc f h = short 0 (hex_digit (n % 16)) acc _ (last j n acc (omega arith))
filled (suc k) (suc j) n acc f h =
    by (nat_eq (n / 16) 0) refl (filled k j (n / 16) (hex_digit (n % 16) ∷ acc) (omega arith) (omega (arith, pow-succ' 16 (suc k))))
  where
    by : (t : Bool) → nat_eq (n / 16) 0 ≡ t
        → zero_filled (suc k + suc (length acc)) (digits_onto j 16 true (n / 16) (hex_digit (n % 16) ∷ acc)) ≡ hex_onto (suc k) (n / 16) (hex_digit (n % 16) ∷ acc)
        → zero_filled (suc (suc k) + length acc) (digits_onto (suc j) 16 true n acc) ≡ hex_onto (suc (suc k)) n acc
    by true t front =
        let d : ℕ = hex_digit (n % 16) in
        let e : n / 16 ≡ 0 = grind (arith, nat_tests) in
        short (suc k) d acc _ (last j n acc e) ∙ sym (zeros (suc k) (d ∷ acc)) ∙ ap (λ (m : ℕ). hex_onto (suc k) m (d ∷ acc)) (sym e)
    by false t front =
        let e : n / 16 ≢ 0 = grind (arith, nat_tests) in
        let m : suc (suc k) + length acc ≡ suc k + suc (length acc) = omega arith in
        (λ i. zero_filled (m i) (more j n acc e i)) ∙ front

-- what std pads is so filled
padded : (text : List ℕ) → padded_integral (format_spec 32 0 4 8 (2 ^ 64 - 1)) false [] text ≡ zero_filled 8 text
unfolding padded_integral char_count
padded text = rw append-nil (ap (λ (m : ℕ). replicate m 48 ++ text) (omega arith))

onto : (n : ℕ) → digits 16 true n ≡ digits_onto 64 16 true n []
unfolding digits
onto n = refl

eight : (n : ℕ) → hex_onto 8 n [] ≡ hex_word n
eight n =
    let a : n / 16 / 16 / 16 / 16 / 16 / 16 / 16 % 16 ≡ n / 16777216 % 256 / 16 = omega arith in
    let b : n / 16 / 16 / 16 / 16 / 16 / 16 % 16 ≡ n / 16777216 % 256 % 16 = omega arith in
    let c : n / 16 / 16 / 16 / 16 / 16 % 16 ≡ n / 65536 % 256 / 16 = omega arith in
    let d : n / 16 / 16 / 16 / 16 % 16 ≡ n / 65536 % 256 % 16 = omega arith in
    let e : n / 16 / 16 / 16 % 16 ≡ n / 256 % 256 / 16 = omega arith in
    let f : n / 16 / 16 % 16 ≡ n / 256 % 256 % 16 = omega arith in
    let g : n / 16 % 16 ≡ n % 256 / 16 = omega arith in
    let h : n % 16 ≡ n % 256 % 16 = omega arith in
    cc

word : (n : ℕ) → n < 2 ^ 32 → padded_integral (format_spec 32 0 4 8 (2 ^ 64 - 1)) false [] (digits 16 true n) ≡ hex_word n
word n h = padded (digits 16 true n) ∙ ap (zero_filled 8) (onto n) ∙ filled 7 64 n [] (omega arith) (omega arith) ∙ eight n

-- what a hole `{:02X}` or `{:08X}` writes, by what std says of its number and its options
module _ (d : _) (s : _) (n : ℕ) (of : digits_output d ≡ Some (digits 16 true n)) where
  laid : (m : ℕ) → s ≡ format_spec 32 0 4 m (2 ^ 64 - 1)
      → styled_digits_output d s ≡ Some (padded_integral (format_spec 32 0 4 m (2 ^ 64 - 1)) false [] (digits 16 true n))
  laid m e =
      ap (styled_digits_output d) e
      ∙ ap (option_map (padded_integral (format_spec 32 0 4 m (2 ^ 64 - 1)) false [])) of

  pub shown_byte : n < 2 ^ 8 → s ≡ format_spec 32 0 4 2 (2 ^ 64 - 1) → styled_digits_output d s ≡ Some (hex_byte n)
  shown_byte h e = laid 2 e ∙ ap Some (lemmas.hex_byte true n h)

  pub shown_word : n < 2 ^ 32 → s ≡ format_spec 32 0 4 8 (2 ^ 64 - 1) → styled_digits_output d s ≡ Some (hex_word n)
  shown_word h e = laid 8 e ∙ ap Some (word n h)
