use Rattle.std.proofs.Common.{◌≡◌, take, string_bytes}
use Rattle.listing.specs.Texts.{listing_text}
use Rattle.listing.proofs.whole.render.Given as goal

-- the text so far is the listing of the lines so far
abbrev pub invariant-loop-line : goal.invariant-loop-line
invariant-loop-line l = string_bytes l.text ≡ listing_text (take l.line-index l.lines)
