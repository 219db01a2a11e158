-- What table words say at an address.
use Rattle.std.specs.Prelude.{ℕ, ◌+◌, ◌*◌, ◌^◌, Bool, cond, ◌==◌}
use Rattle.descriptor.specs.declared.entry.FirstLevel.{FirstLevel}
use Rattle.descriptor.specs.declared.entry.SecondLevel.{SecondLevel}
use Rattle.descriptor.specs.Bits.{bits}
use Rattle.descriptor.specs.Permissions.{permitted, section_permission, page_permission}

-- 0 and 3 at the first level, and 0 at the second, are invalid; 1 is a table, then a large page;
-- 2 is a section, then a small page; 3 at the second level is a small page
abbrev pub entry_type : ℕ → ℕ
entry_type word = bits 1 0 word

abbrev pub is_supersection : ℕ → Bool
is_supersection word = bits 18 18 word == 1

abbrev pub section_page : ℕ → ℕ → ℕ
section_page word va = bits 31 20 word * 2 ^ 8 + bits 19 12 va

abbrev pub table_page : ℕ → ℕ
table_page word = bits 31 12 word

abbrev pub table_place : ℕ → ℕ → ℕ
table_place word va = bits 11 10 word * 2 ^ 8 + bits 19 12 va

abbrev pub large_page : ℕ → ℕ → ℕ
large_page word va = bits 31 16 word * 2 ^ 4 + bits 15 12 va

abbrev pub small_page : ℕ → ℕ
small_page word = bits 31 12 word

abbrev pub first_level : ℕ → ℕ → FirstLevel
first_level word va =
    cond (entry_type word == 1) (FirstLevel.Table (table_page word) (table_place word va))
    (cond (entry_type word == 2)
    (cond (is_supersection word) FirstLevel.Supersection (FirstLevel.Section (section_page word va) (permitted (section_permission word))))
    FirstLevel.Invalid)

abbrev pub second_level : ℕ → ℕ → SecondLevel
second_level word va =
    cond (entry_type word == 0) SecondLevel.Invalid
    (cond (entry_type word == 1)
    (SecondLevel.LargePage (large_page word va) (permitted (page_permission word)))
    (SecondLevel.SmallPage (small_page word) (permitted (page_permission word))))
