-- The words of shadow tables.
use Rattle.std.specs.Prelude.{◌≡◌, ℕ, ◌+◌, ◌*◌, ◌^◌, ◌<◌, ◌≤◌}
use Rattle.platform.specs.declared.right.Right.{Right}
use Rattle.platform.specs.declared.right.Right.TheVariants.{Nothing, Read, Write}
use Rattle.platform.specs.Rights.{rank}
use Rattle.descriptor.specs.declared.entry.FirstLevel.{FirstLevel}
use Rattle.descriptor.specs.declared.entry.SecondLevel.{SecondLevel}
use Rattle.descriptor.specs.Bits.{bits}
use Rattle.descriptor.specs.Addresses.{second_index}
use Rattle.descriptor.specs.Entries.{first_level, second_level}

-- leaf page × 4096 + 1; of the page number the low 20 bits count
abbrev pub root_word : ℕ → ℕ
root_word leaf = bits 19 0 leaf * 2 ^ 12 + 1

abbrev pub attributes : Right → ℕ
attributes Nothing = 0
attributes Read = 0x23E
attributes Write = 0x03E

-- page × 4096 + 0x3E for write, + 0x23E for read; of the page number the low 20 bits count
abbrev pub leaf_word : ℕ → Right → ℕ
leaf_word page right = bits 19 0 page * 2 ^ 12 + attributes right

-- read as a first-level word it names the leaf, whose place is the second index of any address
abbrev pub RootNamesLeaf : ℕ → ℕ → Type 0
RootNamesLeaf leaf word = (va : ℕ) → leaf < 2 ^ 20 → first_level word va ≡ FirstLevel.Table leaf (second_index va)

-- read as a second-level word it is a small page, with the page and the right that it was built for
abbrev pub LeafReadsBack : ℕ → Right → ℕ → Type 0
LeafReadsBack page right word = (va : ℕ) → page < 2 ^ 20 → 1 ≤ rank right → second_level word va ≡ SecondLevel.SmallPage page right
