-- Where an address leads in tables and pages.
use Rattle.std.specs.Prelude.{ℕ}
use Rattle.descriptor.specs.Bits.{bits}

abbrev pub first_index : ℕ → ℕ
first_index va = bits 31 20 va

abbrev pub second_index : ℕ → ℕ
second_index va = bits 19 12 va

abbrev pub page_place : ℕ → ℕ
page_place va = bits 11 2 va
