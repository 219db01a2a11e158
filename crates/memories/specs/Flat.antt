-- Words in one row, as a memory.
use Rattle.std.specs.Prelude.{ℕ, ◌+◌, ◌*◌, Bool, cond, ◌&&◌, List, length, Ok, Err, Result, nat_le, nat_lt, slice_index}
use Rattle.platform.specs.declared.refusal.Refusal.{Refusal}
use Rattle.platform.specs.declared.refusal.Refusal.TheVariants.{NoSuchWord}
use Rattle.platform.specs.Memories.{Mem}

-- the words reach the end of page p
abbrev pub reach : List ℕ → ℕ → Bool
reach xs p = nat_le ((p + 1) * 1024) (length xs)

-- a place past the page's last has no word of its own, though the next page has
abbrev pub flat : List ℕ → Mem
flat xs = record { has = reach xs; word = λ p k. cond (nat_lt k 1024) (slice_index xs (p * 1024 + k)) 0 }

-- where the word at place k of page p stands
abbrev pub flat_place : List ℕ → ℕ → ℕ → Result ℕ Refusal
flat_place xs p k = cond (reach xs p && nat_lt k 1024) (Ok (p * 1024 + k)) (Err NoSuchWord)
