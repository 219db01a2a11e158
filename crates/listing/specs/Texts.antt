-- The text of the listing, as its bytes.
use Rattle.std.specs.List.{flat_map}
use Rattle.std.specs.Prelude.{ℕ, List, ◌++◌, codes, decimal, Ok, Err, Result}
use Rattle.platform.specs.declared.refusal.Refusal.{Refusal}
use Rattle.platform.specs.Refusals.{number}
use Rattle.listing.specs.declared.reply.Reply.{Reply}
use Rattle.listing.specs.declared.reply.Reply.TheVariants.{Done, Abort, Word, Pair}
use Rattle.listing.specs.declared.line.Line.{Line}
use Rattle.listing.specs.Digits.{hex_byte, hex_word}

-- a word, and what belongs to it
abbrev pub reply_text : Reply → List ℕ
reply_text Done = codes "ok"
reply_text (Abort status) = codes "abort " ++ hex_byte status
reply_text (Word word) = codes "word " ++ hex_word word
reply_text (Pair first second) = codes "pair " ++ hex_word first ++ codes " " ++ hex_word second

-- the reply, or that it was refused and the number of the refusal
abbrev pub outcome_text : Result Reply Refusal → List ℕ
outcome_text (Ok reply) = reply_text reply
outcome_text (Err why) = codes "refused " ++ decimal (number why)

-- the number and the kind in decimal, and the outcome, with a space between
abbrev pub line_text : Line → List ℕ
line_text l = decimal l.number ++ (codes " " ++ (decimal l.kind ++ (codes " " ++ outcome_text l.outcome)))

-- a line, with a line feed after it
abbrev pub row : Line → List ℕ
row l = line_text l ++ codes "\n"

-- the header, and a row for each line
abbrev pub listing_text : List Line → List ℕ
listing_text ls = codes "shift\n" ++ flat_map row ls
