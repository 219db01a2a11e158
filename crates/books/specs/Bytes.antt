-- The byte book: what a byte a page means.
use Rattle.std.specs.Prelude.{ℕ, ◌/◌, ◌%◌, cond, if◌then◌else◌, ◌&&◌, List, Some, None, Option, ◌==◌, nat_lt, slice_index}
use Rattle.platform.specs.declared.right.Right.{Right}
use Rattle.platform.specs.declared.right.Right.TheVariants.{Nothing, Read, Write}
use Rattle.platform.specs.Guests.{is_guest}
use Rattle.platform.specs.Books.{Book}

-- the byte of page p: 0 where there is none, and from page 65,536 up
abbrev pub byte_at : List ℕ → ℕ → ℕ
byte_at xs p = cond (nat_lt p 65536) (slice_index xs p) 0

-- with a high half of 1 to 8 that guest has write, and the guest of the low half, if another, has read
abbrev pub byte_right : ℕ → ℕ → Right
byte_right x g = cond (is_guest (x / 16)) (cond (g == x / 16) Write (cond (g == x % 16 && is_guest (x % 16)) Read Nothing)) Nothing

-- with a high half of 15 the page is in the pool of the guest of the low half
abbrev pub byte_pool : ℕ → Option ℕ
byte_pool x = if x / 16 == 15 && is_guest (x % 16) then Some (x % 16) else None

abbrev pub byte_book : List ℕ → Book
byte_book xs = record { right = λ g p. byte_right (byte_at xs p) g; pool = λ p. byte_pool (byte_at xs p) }
