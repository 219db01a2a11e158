-- The numbers that stand in a script.
use Rattle.std.specs.Prelude.{ℕ, zero, suc, ◌+◌, ◌*◌, List, length, take, Ok, Err, Result, if◌then◌else◌, ◌==◌, nat_le, slice_index}
use Rattle.platform.specs.declared.refusal.Refusal.{Refusal}
use Rattle.platform.specs.declared.refusal.Refusal.TheVariants.{WrongLength}
use Rattle.platform.specs.declared.span.Span.{Span}

-- the number that n bytes say, from an offset on, the lowest byte first
abbrev pub field : List ℕ → ℕ → ℕ → ℕ
field xs offset zero = 0
field xs offset (suc n) = slice_index xs offset + 256 * field xs (offset + 1) n

-- the pages that stand from an offset on: the first, and how many there are
abbrev pub span_field : List ℕ → ℕ → Span
span_field xs offset = record { first = field xs offset 4; count = field xs (offset + 4) 4 }

-- the next n bytes, the number that they say, and the next pages
abbrev pub next_bytes : ℕ → List ℕ → Result (List ℕ) Refusal
next_bytes n xs = if nat_le n (length xs) then Ok (take n xs) else Err WrongLength

abbrev pub next_field : ℕ → List ℕ → Result ℕ Refusal
next_field n xs = if nat_le n (length xs) then Ok (field xs 0 n) else Err WrongLength

abbrev pub next_span : List ℕ → Result Span Refusal
next_span xs = if nat_le 8 (length xs) then Ok (span_field xs 0) else Err WrongLength

-- that no byte is left
abbrev pub no_more : List ℕ → Result (Unit {0}) Refusal
no_more xs = if length xs == 0 then Ok tt else Err WrongLength
