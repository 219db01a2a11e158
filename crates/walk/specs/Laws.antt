-- What every walk keeps to.
use Rattle.std.specs.Prelude.{◌≡◌, ℕ, ◌<◌, ◌≤◌, true, None, Ok, Err, Option, Result}
use Rattle.platform.specs.declared.access.Access.{Access}
use Rattle.platform.specs.declared.right.Right.{Right}
use Rattle.platform.specs.Books.{Book}
use Rattle.platform.specs.Memories.{Mem}
use Rattle.platform.specs.Rights.{rank}
use Rattle.platform.specs.Windows.{Pane}
use Rattle.walk.specs.declared.abort.Abort.{Abort}
use Rattle.walk.specs.declared.mapping.Mapping.{Mapping}
use Rattle.walk.specs.Sights.{permits, sight}
use Rattle.walk.specs.Walks.{walk_answer}

-- a mapping that guest g may have: to a present page inside the window, in no pool, on which the book gives g
-- at least the mapping's right, which is enough for the access
pub record Allowed (m : Mem) (b : Book) (w : Pane) (g : ℕ) (x : Access) (t : Mapping) : Type 0 where
  pub in_window : t.page < w.count
  pub is_present : m.has t.page ≡ true
  pub in_no_pool : b.pool t.page ≡ None
  pub within_right : rank t.right ≤ rank (b.right g t.page)
  pub enough : permits t.right x ≡ true

-- of an answer: an abort, or a mapping that the guest may have
abbrev pub MappingIsAllowed : Mem → Book → Pane → ℕ → Access → Result Mapping Abort → Type 0
MappingIsAllowed m b w g x (Ok t) = Allowed m b w g x t
MappingIsAllowed m b w g x (Err e) = Unit {0}

-- two memories that look alike to a guest with equal rights on pages 0 to n - 1: the same pages are present,
-- and the words on pages that it may read are the same
pub record LookAlike (n : ℕ) (m m' : Mem) (r r' : ℕ → Right) : Type 0 where
  pub present : (p : ℕ) → p < n → m.has p ≡ m'.has p
  pub rights : (p : ℕ) → p < n → r p ≡ r' p
  pub words : (p k : ℕ) → p < n → m.has p ≡ true → 1 ≤ rank (r p) → k < 1024 → m.word p k ≡ m'.word p k

abbrev pub WalkReadsOnlyWhatIsReadable : Type 0
WalkReadsOnlyWhatIsReadable =
    (m m' : Mem) (r r' : ℕ → Right) (w : Pane) → LookAlike w.count m m' r r'
    → (base : Option ℕ) (va : ℕ) (x : Access) → walk_answer (sight m r w) base va x ≡ walk_answer (sight m' r' w) base va x
