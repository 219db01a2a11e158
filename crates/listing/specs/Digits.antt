-- Capital hexadecimal digits, as their bytes.
use Rattle.std.specs.Prelude.{ℕ, ◌+◌, ◌/◌, ◌%◌, cond, List, [], ◌∷◌, ◌++◌, nat_lt}

-- `0` to `9` stand from 48 on, and `A`, which is ten, at 65
abbrev pub hex_digit : ℕ → ℕ
hex_digit value = cond (nat_lt value 10) (48 + value) (55 + value)

-- two digits
abbrev pub hex_byte : ℕ → List ℕ
hex_byte n = hex_digit (n / 16) ∷ hex_digit (n % 16) ∷ []

-- eight digits: the four bytes, the highest first
abbrev pub hex_word : ℕ → List ℕ
hex_word n = hex_byte (n / 16777216 % 256) ++ hex_byte (n / 65536 % 256) ++ hex_byte (n / 256 % 256) ++ hex_byte (n % 256)
