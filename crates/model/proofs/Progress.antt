-- A page is free wherever a fault takes one: two enrolled pages are enough.
use Rattle.std.proofs.Common.{◌≡◌, ℕ, ◌≤◌, true, false, cond, ◌&&◌, eqb, length, refl, ap, ap₂, arith, eq-eqb}
use borrow.Author.Tests.{eqb-false}
use Rattle.model.proofs.Plain.{World, State, place, free_count, drop, new_root, cleared, crowded, roomy}
use Rattle.model.proofs.Sound.{Lawful}
use Rattle.model.proofs.Basics.{by_test, clash}
use Rattle.model.proofs.Filling.{Good, good_drop}
use Rattle.model.proofs.View.{Alone}
use Rattle.model.proofs.Alone.{alone_drop, alone_root}

module _ (w : World) (L : Lawful w) (g : ℕ) (two : 2 ≤ length (w.pages g)) where
  drop_count : (s : State) → free_count w (drop w s g) g ≡ length (w.pages g)
  drop_count s = ap (λ (a : Alone). a.free) (alone_drop w L s g)

  -- after a drop
  pub drop_some : (s : State) → ¬ (free_count w (drop w s g) g ≡ 0)
  drop_some s z = let d = drop_count s in omega arith

  -- for a root
  pub cleared_some : (s : State) → ¬ (free_count w (cleared w s g (crowded w s g)) g ≡ 0)
  cleared_some s = by_test (λ b. crowded w s g ≡ b → ¬ (free_count w (cleared w s g b) g ≡ 0)) (crowded w s g)
      (λ e c z. drop_some s z)
      (λ e c z. let f : eqb (free_count w s g) 0 ≡ false = grind arith in eqb-false (free_count w s g) 0 f z)
      refl

  -- for a leaf, after room was made for it
  pub leaf_some : (s : State) (n p : ℕ) → Good w s → ((eqb (place s g n) 0 && eqb (free_count w s g) 0) ≡ true → (drop w s g).free g p ≡ true)
      → place (roomy w s g n p) g n ≡ 0 → ¬ (free_count w (roomy w s g n p) g ≡ 0)
  unfolding roomy
  leaf_some s n p G f = by_test (λ b. (eqb (place s g n) 0 && eqb (free_count w s g) 0) ≡ b → place (cond b (new_root (drop w s g) g p) s) g n ≡ 0 → ¬ (free_count w (cond b (new_root (drop w s g) g p) s) g ≡ 0)) (eqb (place s g n) 0 && eqb (free_count w s g) 0)
      (λ e c y z.
      let a = ap (λ (x : Alone). x.free) (alone_root w L (drop w s g) (good_drop w L s g G) g p (f c)) in
      let d = drop_count s in omega arith)
      (λ e c y z. clash (ap₂ ◌&&◌ (eq-eqb (place s g n) 0 y) (eq-eqb (free_count w s g) 0 z)) c)
      refl
