-- A walk that answers a mapping lands on a page that the guest may have.
use Rattle.std.proofs.Common.{◌≡◌, ℕ, ◌<◌, ◌≤◌, true, cond, leb, Some, None, Ok, Err, Option, Result, refl, sym, ap, subst, arith}
use Rattle.std.proofs.lemmas.Bool.Decides.{nat_tests}
use Rattle.std.proofs.lemmas.Bool.{leb-true}
use Rattle.platform.specs.declared.access.Access.{Access}
use Rattle.platform.specs.declared.right.Right.{Right}
use Rattle.platform.specs.declared.right.Right.TheVariants.{Nothing}
use Rattle.platform.specs.Books.{Book, PoolsGiveNothing}
use Rattle.platform.specs.Memories.{Mem}
use Rattle.platform.specs.Rights.{rank}
use Rattle.platform.specs.Windows.{Pane, physical}
use Rattle.walk.specs.declared.abort.Abort.{Abort}
use Rattle.walk.specs.declared.abort.Abort.TheVariants.{External}
use Rattle.walk.specs.declared.mapping.Ask.{Ask}
use Rattle.walk.specs.declared.mapping.Mapping.{Mapping}
use Rattle.walk.specs.Sights.{permits, lies_at, may_at, sight}
use Rattle.walk.specs.Walks.{next, asked, landed, reached, granted, walk_answer}
use Rattle.walk.specs.Laws.{Allowed, MappingIsAllowed}
use Rattle.walk.proofs.Cases.{by_option, by_test}

pub physical_below : (w : Pane) (g p : ℕ) → physical w g ≡ Some p → p < w.count
physical_below w g p e = grind (arith, nat_tests)

module _ (m : Mem) (b : Book) (w : Pane) (g : ℕ) (x : Access) (t : Mapping) (law : PoolsGiveNothing b) where
  abbrev own : ℕ → Right
  own = b.right g

  no_right : {A : Type 0} (y : Access) (r a : Right) → r ≡ Nothing → rank a ≤ rank r → permits a y ≡ true → A
  no_right {A} Access.Read r a e le ok = absurd (let z : rank r ≡ 0 = ap rank e in omega (arith, leb-true 1 (rank a) ok))
  no_right {A} Access.Write r a e le ok = absurd (let z : rank r ≡ 0 = ap rank e in omega (arith, leb-true 2 (rank a) ok))

  off_pools : (p : ℕ) (a : Right) → rank a ≤ rank (own p) → permits a x ≡ true → b.pool p ≡ None
  off_pools p a le ok =
      by_option (λ o. o ≡ None) (b.pool p) (λ _. refl)
      (λ h is. no_right x (own p) a (law g p (λ z. cc)) le ok)

  -- on physical page p of the window
  allowed_at : (a : Right) (p : ℕ) → p < w.count → permits a x ≡ true → landed (lies_at m (Some p)) (own p) a ≡ Ok t → Allowed m b w g x t
  allowed_at a p lt ok =
      by_test (λ c. landed (cond c (Some p) None) (own p) a ≡ Ok t → Allowed m b w g x t) (m.has p)
      (λ is. by_test (λ c. cond c (Ok (record { page = p; right = a })) (Err External) ≡ Ok t → Allowed m b w g x t) (leb (rank a) (rank (own p)))
      (λ l e.
      let le = leb-true (rank a) (rank (own p)) l in
      let q : record { page = p; right = a } ≡ t = cc in
      subst (λ (u : Mapping). Allowed m b w g x u) q (record { in_window = lt; is_present = is; in_no_pool = off_pools p a le ok; within_right = le; enough = ok }))
      (λ _ e. absurd cc))
      (λ _ e. absurd cc)

  allowed_reached : (page : ℕ) (a : Right) → permits a x ≡ true → reached (sight m own w) page a ≡ Ok t → Allowed m b w g x t
  allowed_reached page a ok =
      by_option (λ o. landed (lies_at m o) (may_at own o) a ≡ Ok t → Allowed m b w g x t) (physical w page)
      (λ _ e. absurd cc)
      (λ p is e. allowed_at a p (physical_below w page p is) ok e)

  allowed_granted : (q : Result Ask Abort) → next q (granted (sight m own w) x) ≡ Ok t → Allowed m b w g x t
  allowed_granted (Err e) h = absurd cc
  allowed_granted (Ok q) h =
      by_test (λ c. cond c (reached (sight m own w) q.page q.right) (Err q.denied) ≡ Ok t → Allowed m b w g x t) (permits q.right x)
      (λ ok e. allowed_reached q.page q.right ok e)
      (λ _ e. absurd cc)
      h

-- of every walk, by the law that a page of a pool gives every guest nothing
pub allowed : (m : Mem) (b : Book) (w : Pane) (g : ℕ) (base : Option ℕ) (va : ℕ) (x : Access) → PoolsGiveNothing b
    → (r : Result Mapping Abort) → r ≡ walk_answer (sight m (b.right g) w) base va x → MappingIsAllowed m b w g x r
allowed m b w g base va x law (Err e) h = tt
allowed m b w g base va x law (Ok t) h = allowed_granted m b w g x t law (asked (sight m (b.right g) w) base va) (sym h)
