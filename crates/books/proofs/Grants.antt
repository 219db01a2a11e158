-- The grants of a book, one after another.
use Rattle.std.proofs.Common.{◌≡◌, ℕ, ◌+◌, ◌<◌, List, length, get_or, drop, sym, ap, ◌∙◌}
use Rattle.std.proofs.lemmas.List.{at_drop_more}
use Rattle.platform.specs.declared.right.Right.{Right}
use Rattle.platform.specs.Rights.{greater}
use Rattle.platform.proofs.Rights.{greater_assoc}
use Rattle.books.specs.declared.grant.Grant.{Grant}
use Rattle.books.specs.Intervals.{gives, granted}

-- the best right so far, with the next grant and what the others give
pub granted_more : (b : Right) (xs : List Grant) (i g p : ℕ) (x : Grant) → i < length xs
    → greater b (granted (drop i xs) g p) ≡ greater (greater b (gives (get_or xs i x) g p)) (granted (drop (i + 1) xs) g p)
granted_more b xs i g p x l =
    ap (greater b) (at_drop_more (λ ys. granted ys g p) xs i x l)
    ∙ sym (greater_assoc b (gives (get_or xs i x) g p) (granted (drop (i + 1) xs) g p))
