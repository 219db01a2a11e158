-- What holds of a plain board between two calls.
use Rattle.std.proofs.Common.{◌≡◌, ℕ, ◌<◌, ◌≤◌, true, false, eqb, ◌⊎◌, List, [], ◌∷◌, length, Some, None}
use Rattle.platform.specs.declared.right.Right.TheVariants.{Nothing, Write}
use Rattle.platform.specs.Guests.{is_guest}
use Rattle.platform.specs.Lists.{count}
use Rattle.platform.specs.Rights.{rank}
use Rattle.model.proofs.Plain.{World, State, Regs, Space, enrolled, root_at, leaf_mark, map_word, page_in, right_in}

-- the laws of the parts, and of the enrolled pages
pub record Lawful (w : World) : Type 0 where
  pub pool_none : (g p : ℕ) → ¬ (w.pool p ≡ None) → w.right g p ≡ Nothing
  pub one_writer : (g h p : ℕ) → w.right g p ≡ Write → w.right h p ≡ Write → g ≡ h
  pub own_pool : (g p : ℕ) → enrolled w g p ≡ true → w.pool p ≡ Some g
  pub once : (g p : ℕ) → enrolled w g p ≡ true → count (λ q. eqb q p) (w.pages g) ≡ 1
  pub guests_only : (g p : ℕ) → enrolled w g p ≡ true → is_guest g ≡ true
  pub in_window : (g p : ℕ) → enrolled w g p ≡ true → p < w.window.count
  pub is_present : (g p : ℕ) → enrolled w g p ≡ true → w.has p ≡ true
  pub window_size : w.window.count ≤ 65536
  pub two_pages : (g : ℕ) → w.admitted g ≡ true → 2 ≤ length (w.pages g)

abbrev pub new_regs : Regs
new_regs = record { paging = false; base = 0; code = 0; address = 0 }

pub record Started (w : World) (s : State) : Type 0 where
  pub zeroed : (g p k : ℕ) → enrolled w g p ≡ true → s.word p k ≡ 0
  pub all_free : (g p : ℕ) → s.free g p ≡ enrolled w g p
  pub no_space : (g : ℕ) → (s.guest g).spaces ≡ []
  pub no_regs : (g : ℕ) → (s.guest g).regs ≡ new_regs
  pub none_runs : s.running ≡ 0

-- what an enrolled page is used for
pub data Role : Type 0 where
  idle : Role
  is_root : ℕ → ℕ → Role
  is_leaf : ℕ → ℕ → ℕ → Role

-- a mapping's word: a page that is there, in no pool, with no more than guest g's right
pub record Allowed (w : World) (g v : ℕ) : Type 0 where
  pub no_pool : w.pool (page_in v) ≡ None
  pub by_book : rank (right_in v) ≤ rank (w.right g (page_in v))
  pub form : v ≡ map_word (page_in v) (right_in v)
  pub inside : page_in v < w.window.count
  pub there : w.has (page_in v) ≡ true

abbrev pub In : Space → List Space → Type 0
In x [] = ⊥
In x (y ∷ l) = (x ≡ y) ⊎ In x l

-- p is a root, or a leaf that a root names
pub data Used (f : ℕ → ℕ → ℕ) (l : List Space) (p : ℕ) : Type 0 where
  as_root : (x : Space) → In x l → x.root ≡ p → Used f l p
  as_leaf : (x : Space) (n : ℕ) → In x l → ¬ (f x.root n ≡ 0) → page_in (f x.root n) ≡ p → Used f l p

pub record Sound (w : World) (s : State) (role : ℕ → Role) : Type 0 where
  pub root_in : (g k r : ℕ) → root_at k (s.guest g).spaces ≡ Some r → role r ≡ is_root g k
  pub listed : (g : ℕ) (x : Space) → In x (s.guest g).spaces → root_at x.key (s.guest g).spaces ≡ Some x.root
  pub leaf_in : (g k r i : ℕ) → role r ≡ is_root g k → ¬ (s.word r i ≡ 0) → role (page_in (s.word r i)) ≡ is_leaf g r i
  pub root_form : (g k r i : ℕ) → role r ≡ is_root g k → ¬ (s.word r i ≡ 0) → s.word r i ≡ leaf_mark (page_in (s.word r i))
  pub map_in : (g r i p j : ℕ) → role p ≡ is_leaf g r i → ¬ (s.word p j ≡ 0) → Allowed w g (s.word p j)
  pub used_root : (g k p : ℕ) → role p ≡ is_root g k → (enrolled w g p ≡ true) × (s.free g p ≡ false)
  pub used_leaf : (g r i p : ℕ) → role p ≡ is_leaf g r i → (enrolled w g p ≡ true) × (s.free g p ≡ false)
  pub idle_zero : (g p : ℕ) → s.free g p ≡ true → (enrolled w g p ≡ true) × ((k : ℕ) → s.word p k ≡ 0)
  pub back : (g p : ℕ) → enrolled w g p ≡ true → s.free g p ≡ false → Used s.word (s.guest g).spaces p
