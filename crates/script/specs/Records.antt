-- What stands next in a script, and how a record is spelled.
use Rattle.std.specs.Prelude.{◌≡◌, ℕ, ◌+◌, ◌-◌, ◌/◌, ◌%◌, Bool, if◌then◌else◌, ◌&&◌, List, [], ◌∷◌, ◌++◌, length, take, drop, Some, None, Ok, Err, Option, Result, ◌==◌, nat_le}
use Rattle.platform.specs.declared.refusal.Refusal.{Refusal}
use Rattle.platform.specs.declared.refusal.Refusal.TheVariants.{RecordCut}
use Rattle.script.specs.declared.record.Record.{Record}
use Rattle.script.specs.Fields.{field}

-- what reading a record finds: its kind and body, a refusal, or the end
pub data Reading : Type 0 where
  found : ℕ → List ℕ → Reading
  refused : Refusal → Reading
  ended : Reading

-- the bytes begin with a whole record: its length counts the kind at least, and as many bytes follow
abbrev pub whole : List ℕ → Bool
whole xs = nat_le 2 (field xs 0 2) && nat_le (2 + field xs 0 2) (length xs)

-- what some bytes begin with: a length of 2 bytes, a kind of 2 bytes, and the body
abbrev pub reading : List ℕ → Reading
reading xs =
    if length xs == 0 then ended
    else if whole xs then found (field xs 2 2) (take (field xs 0 2 - 2) (drop 4 xs))
    else refused RecordCut

-- what is left after it: a record is passed; a refusal and the end are not
abbrev pub rest_after : Reading → List ℕ → List ℕ
rest_after (found kind body) xs = drop (4 + length body) xs
rest_after (refused why) xs = xs
rest_after ended xs = xs

-- what a call of `next` answered, with no reference in it
abbrev pub seen : Result (Option Record) Refusal → Reading
seen (Ok (Some r)) = found r.kind r.body.now
seen (Ok None) = ended
seen (Err why) = refused why

-- a number of two bytes, the lowest first
abbrev pub two_bytes : ℕ → List ℕ
two_bytes n = n % 256 ∷ n / 256 ∷ []

-- the bytes of a record: the length of what follows, the kind, the body
abbrev pub spelling : ℕ → List ℕ → List ℕ
spelling kind body = two_bytes (2 + length body) ++ two_bytes kind ++ body

-- Where a record was found, the bytes that were left are its spelling, and then those that are left now.
abbrev pub Spelled : Reading → List ℕ → List ℕ → Type 0
Spelled (found kind body) before after = before ≡ spelling kind body ++ after
Spelled (refused why) before after = Unit {0}
Spelled ended before after = Unit {0}
