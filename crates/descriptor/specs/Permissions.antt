-- Access permission, three bits of a table word.
use Rattle.std.specs.Prelude.{ℕ, ◌+◌, ◌*◌, ◌^◌, cond, ◌||◌, ◌==◌, nat_lt}
use Rattle.platform.specs.declared.right.Right.{Right}
use Rattle.platform.specs.declared.right.Right.TheVariants.{Nothing, Read, Write}
use Rattle.descriptor.specs.Bits.{bits}

-- 0 and 4 give nothing; 1, 2 and 3 write; 5, 6 and 7 read
abbrev pub permitted : ℕ → Right
permitted ap = cond (ap == 0 || ap == 4) Nothing (cond (nat_lt ap 4) Write Read)

abbrev pub section_permission : ℕ → ℕ
section_permission word = bits 15 15 word * 2 ^ 2 + bits 11 10 word

abbrev pub page_permission : ℕ → ℕ
page_permission word = bits 9 9 word * 2 ^ 2 + bits 5 4 word
