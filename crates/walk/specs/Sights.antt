-- What a guest sees through the window.
use Rattle.std.specs.Prelude.{ℕ, Bool, cond, ◌&&◌, Some, None, Option, nat_le}
use Rattle.platform.specs.declared.access.Access.{Access}
use Rattle.platform.specs.declared.right.Right.{Right}
use Rattle.platform.specs.declared.right.Right.TheVariants.{Nothing}
use Rattle.platform.specs.Memories.{Mem, inside}
use Rattle.platform.specs.Rights.{rank}
use Rattle.platform.specs.Windows.{Pane, physical}

-- whether a right is enough for an access
abbrev pub permits : Right → Access → Bool
permits r Access.Read = nat_le 1 (rank r)
permits r Access.Write = nat_le 2 (rank r)

-- by guest pages: the words that the guest may read, the physical page where the memory has it, and the guest's right there
pub record Sight : Type 0 where
  pub seen : ℕ → ℕ → Option ℕ
  pub lies : ℕ → Option ℕ
  pub may : ℕ → Right

-- the word at place k of a physical page, if there is one and the guest may read it
abbrev pub seen_at : Mem → (ℕ → Right) → Option ℕ → ℕ → Option ℕ
seen_at m r None k = None
seen_at m r (Some p) k = cond (permits (r p) Access.Read && inside m p k) (Some (m.word p k)) None

-- a physical page that the memory has
abbrev pub lies_at : Mem → Option ℕ → Option ℕ
lies_at m None = None
lies_at m (Some p) = cond (m.has p) (Some p) None

-- the guest's right on a physical page
abbrev pub may_at : (ℕ → Right) → Option ℕ → Right
may_at r None = Nothing
may_at r (Some p) = r p

-- what the guest with the rights r sees of a memory through a window
abbrev pub sight : Mem → (ℕ → Right) → Pane → Sight
sight m r w = record {
  seen = λ g k. seen_at m r (physical w g) k;
  lies = λ g. lies_at m (physical w g);
  may = λ g. may_at r (physical w g);
}
