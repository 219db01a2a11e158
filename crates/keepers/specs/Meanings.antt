-- What the orders of both makes mean after a page more, and after a page freed.
use Rattle.std.specs.Prelude.{◌≡◌, ℕ, Bool, true, cond, ◌&&◌, List, [], ◌∷◌, ◌++◌, ◌==◌, refl, zero, suc}
use mathlib.Core.Path.{fun_ext}
use Rattle.std.proofs.Common.{ap, rules}
use Rattle.platform.specs.Lists.{member}
use Rattle.std.proofs.lemmas.List.Folds.{list_any-append}
use Rattle.keepers.specs.declared.mark.Mark.{Mark}
use Rattle.keepers.specs.Rows.{Ring, pages_of, is_free, place_of, set_free, ring_share, ring_with, ring_freed}
use Rattle.keepers.specs.Shares.{Share, share_with, share_marked}
use Rattle.keepers.specs.Stacks.{Pile, pile_share, pile_with, pile_freed}

-- equal part by part
pub same_share : (s t : Share) → s.pages ≡ t.pages → ((p : ℕ) → s.free p ≡ t.free p) → s ≡ t
same_share s t a b i = record { pages = a i; free = fun_ext b i }

pub pages_push : (ms : List Mark) (m : Mark) → pages_of (ms ++ m ∷ []) ≡ pages_of ms ++ m.page ∷ []
pages_push [] m = refl
pages_push (x ∷ ms) m = ap (λ (ps : List ℕ). x.page ∷ ps) (pages_push ms m)

pub set_pages : (ms : List Mark) (i : ℕ) (b : Bool) → pages_of (set_free ms i b) ≡ pages_of ms
set_pages [] i b = refl
set_pages (m ∷ ms) zero b = refl
set_pages (m ∷ ms) (suc i) b = ap (λ (ps : List ℕ). m.page ∷ ps) (set_pages ms i b)

freed_is : (ms : List Mark) (p q : ℕ) → member p (pages_of ms) ≡ true → is_free (set_free ms (place_of ms p) true) q ≡ cond (q == p) true (is_free ms q)
freed_is [] p q e = search rules
freed_is (m ∷ ms) p q e = let h = freed_is ms p q in search rules

-- a page of a stack
pub pile_adds : (o : Pile) (p : ℕ) → pile_share (pile_with o p) ≡ share_with (pile_share o) p
pile_adds o p =
    same_share (pile_share (pile_with o p)) (share_with (pile_share o) p) refl
    (λ q. let e = list_any-append (λ x. x == q) o.free (p ∷ []) in search rules)

pub pile_frees : (o : Pile) (p : ℕ) → member p o.pages ≡ true → pile_share (pile_freed o p) ≡ share_marked (pile_share o) p true
pile_frees o p m =
    same_share (pile_share (pile_freed o p)) (share_marked (pile_share o) p true) refl
    (λ q. let e = list_any-append (λ x. x == q) o.free (p ∷ []) in search rules)

-- a page of a row of marks
pub ring_adds : (r : Ring) (p : ℕ) → ring_share (ring_with r p) ≡ share_with (ring_share r) p
ring_adds r p =
    same_share (ring_share (ring_with r p)) (share_with (ring_share r) p) (pages_push r.marks (record { page = p; free = true }))
    (λ q. let e = list_any-append (λ m. (m.page == q) && m.free) r.marks ((record { page = p; free = true }) ∷ []) in search rules)

pub ring_frees : (r : Ring) (p : ℕ) → member p (pages_of r.marks) ≡ true → ring_share (ring_freed r p) ≡ share_marked (ring_share r) p true
ring_frees r p m =
    same_share (ring_share (ring_freed r p)) (share_marked (ring_share r) p true) (set_pages r.marks (place_of r.marks p) true)
    (λ q. let f = freed_is r.marks p q m in search rules)
