-- A guest sees the same in two memories that look alike to it.
use Rattle.std.proofs.Common.{◌≡◌, ℕ, ◌<◌, Bool, cond, Some, None, Option, refl, ap, arith}
use mathlib.Core.Path.{fun_ext}
use Rattle.std.proofs.lemmas.Bool.Decides.{nat_tests}
use Rattle.platform.specs.declared.right.Right.{Right}
use Rattle.platform.specs.Memories.{Mem}
use Rattle.platform.specs.Windows.{Pane, physical}
use Rattle.walk.specs.Sights.{Sight, seen_at, lies_at, may_at, sight}
use Rattle.walk.specs.Walks.{walk_answer}
use Rattle.walk.specs.Laws.{LookAlike, WalkReadsOnlyWhatIsReadable}
use Rattle.walk.proofs.Cases.{by_option}
use Rattle.walk.proofs.Landing.{physical_below}

same_seen : (n : ℕ) (m m' : Mem) (r r' : ℕ → Right) → LookAlike n m m' r r' → (p k : ℕ) → p < n → seen_at m r (Some p) k ≡ seen_at m' r' (Some p) k
same_seen n m m' r r' h p k lt =
    let a = h.present p lt in
    let b = h.rights p lt in
    let c = h.words p k lt in
    grind (arith, nat_tests)

sees : (ℕ → ℕ → Option ℕ) → (ℕ → Option ℕ) → (ℕ → Right) → Sight
sees f l y = record { seen = f; lies = l; may = y }

pub same_sight : (m m' : Mem) (r r' : ℕ → Right) (w : Pane) → LookAlike w.count m m' r r' → sight m r w ≡ sight m' r' w
unfolding sees
same_sight m m' r r' w h =
    let words : (sight m r w).seen ≡ (sight m' r' w).seen =
    fun_ext (λ g. fun_ext (λ k. by_option (λ o. seen_at m r o k ≡ seen_at m' r' o k) (physical w g) (λ _. refl)
    (λ p e. same_seen w.count m m' r r' h p k (physical_below w g p e)))) in
    let places : (sight m r w).lies ≡ (sight m' r' w).lies =
    fun_ext (λ g. by_option (λ o. lies_at m o ≡ lies_at m' o) (physical w g) (λ _. refl)
    (λ p e. ap (λ (b : Bool). cond b (Some p) None) (h.present p (physical_below w g p e)))) in
    let rights : (sight m r w).may ≡ (sight m' r' w).may =
    fun_ext (λ g. by_option (λ o. may_at r o ≡ may_at r' o) (physical w g) (λ _. refl)
    (λ p e. h.rights p (physical_below w g p e))) in
    let q : sees (sight m r w).seen (sight m r w).lies (sight m r w).may ≡ sees (sight m' r' w).seen (sight m' r' w).lies (sight m' r' w).may = cc in
    q

pub same_walk : WalkReadsOnlyWhatIsReadable
same_walk m m' r r' w h base va x = ap (λ (s : Sight). walk_answer s base va x) (same_sight m m' r r' w h)
