-- Which pages a guest can enrol.
use Rattle.std.specs.Prelude.{ℕ, ◌&&◌, Option, count_by, nat_eq}
use Rattle.std.specs.List.{range_with_len}
use Rattle.std.specs.Option.{option_eq}
use Rattle.platform.specs.Memories.{Mem}
use Rattle.platform.specs.Books.{Book}

-- how many pages below page n are in the memory and in the pool of an owner, or in none where none is asked for
abbrev pub enrollable_below : Mem → Book → Option ℕ → ℕ → ℕ
enrollable_below m b owner n = count_by (λ p. option_eq nat_eq (b.pool p) owner && m.has p) (range_with_len 0 n)
