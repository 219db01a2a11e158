-- Each change of a guest's own is that of the guest alone.
use Rattle.std.proofs.Common.{◌≡◌, ℕ, ◌-◌, Bool, true, false, cond, not, ◌&&◌, eqb, leb, is_some, Some, None, Option, sym, refl, ap, ◌∙◌, subst, ap₂, arith, eq-eqb, ne_eqb, leb-true}
use borrow.Author.Tests.{eqb-false}
use Rattle.platform.specs.Lists.{count}
use Rattle.platform.specs.Rights.{rank}
use Rattle.model.proofs.Plain.{World, State, key_of, at, put, enrolled, root_at, present, page_in, leaf_mark, new_root, new_leaf, drop, write, names, wipe, free_count, mapping_at}
use Rattle.model.proofs.Sound.{Lawful, Role, is_root, is_leaf}
use Rattle.model.proofs.Basics.{on, test, clash, root_leaf, by_option, by_test, at_other, at_is, put_same, put_page, put_place, taken}
use Rattle.model.proofs.Keeps.{page_leaf, named, unnamed_root, names_in, root_listed}
use Rattle.model.proofs.Filling.{Good}
use Rattle.model.proofs.Keeping.{some_right, no_pool_out}
use Rattle.model.proofs.Counts.{count_all, count_same, count_take}
use Rattle.model.proofs.View.{Alone, given_of, alone, leaf_at, own_drop, own_root, own_leaf, own_map, own_wipe}

pub alone_path : (a b : Alone) → a.regs ≡ b.regs → ((k : ℕ) → a.rooted k ≡ b.rooted k) → ((k n : ℕ) → a.leaf k n ≡ b.leaf k n) → ((k n j : ℕ) → a.map k n j ≡ b.map k n j) →
    a.number ≡ b.number → a.free ≡ b.free → ((p k : ℕ) → a.words p k ≡ b.words p k) → a ≡ b
alone_path a b e1 e2 e3 e4 e5 e6 e7 = λ i. record { regs = e1 i; rooted = λ k. e2 k i; leaf = λ k n. e3 k n i; map = λ k n j. e4 k n j i; number = e5 i; free = e6 i; words = λ p k. e7 p k i }

-- words that a guest may read: a change elsewhere does not show
pub readable_same : (b : Bool) (x y : ℕ) → (b ≡ true → x ≡ y) → cond b x 0 ≡ cond b y 0
readable_same true x y h = h refl
readable_same false x y h = refl

-- what a root shows hangs on its own words and those of the leaves that it names
pub leaf_same : (s t : State) (o : Option ℕ) (n : ℕ) → ((r : ℕ) → o ≡ Some r → t.word r n ≡ s.word r n) → leaf_at t o n ≡ leaf_at s o n
leaf_same s t None n h = refl
leaf_same s t (Some r) n h = rw (h r refl)

pub map_same : (s t : State) (o : Option ℕ) (n j : ℕ) → ((r : ℕ) → o ≡ Some r → t.word r n ≡ s.word r n) →
    ((r : ℕ) → o ≡ Some r → ¬ (s.word r n ≡ 0) → t.word (page_in (s.word r n)) j ≡ s.word (page_in (s.word r n)) j) → mapping_at t o n j ≡ mapping_at s o n j
map_same s t None n j h m = refl
map_same s t (Some r) n j h m =
    rw (h r refl) (by_test (λ b. cond b 0 (t.word (page_in (s.word r n)) j) ≡ cond b 0 (s.word (page_in (s.word r n)) j)) (eqb (s.word r n) 0) (λ e. refl) (λ e. m r refl (eqb-false (s.word r n) 0 e)))

-- the updates of a guest alone, at a place
pub upd_other : (f : ℕ → ℕ → ℕ → ℕ) (κ n j v k m l : ℕ) → (k ≡ κ → m ≡ n → ⊥) → at f κ (put (f κ) n j v) k m l ≡ f k m l
upd_other f κ n j v k m l h =
    on k κ
    (λ e. on m n (λ d. absurd (h e d)) (λ d. ap (λ (x : ℕ → ℕ → ℕ). x m l) (at_is f κ (put (f κ) n j v) k e) ∙ put_page (f κ) n j v m l d ∙ ap (λ x. f x m l) (sym e)))
    (λ e. ap (λ (x : ℕ → ℕ → ℕ). x m l) (at_other f κ (put (f κ) n j v) k e))

pub upd_here : (f : ℕ → ℕ → ℕ → ℕ) (κ n j v k m l : ℕ) → k ≡ κ → ¬ (l ≡ j) → at f κ (put (f κ) n j v) k m l ≡ f k m l
upd_here f κ n j v k m l e d = ap (λ (x : ℕ → ℕ → ℕ). x m l) (at_is f κ (put (f κ) n j v) k e) ∙ put_place (f κ) n j v m l d ∙ ap (λ x. f x m l) (sym e)

pub upd_exact : (f : ℕ → ℕ → ℕ → ℕ) (κ n j v k m l : ℕ) → k ≡ κ → m ≡ n → l ≡ j → at f κ (put (f κ) n j v) k m l ≡ v
upd_exact f κ n j v k m l e d c = ap (λ (x : ℕ → ℕ → ℕ). x m l) (at_is f κ (put (f κ) n j v) k e) ∙ ap₂ (put (f κ) n j v) d c ∙ put_same (f κ) n j v

lf_other : (f : ℕ → ℕ → Bool) (κ n k m : ℕ) → (k ≡ κ → m ≡ n → ⊥) → at f κ (at (f κ) n true) k m ≡ f k m
lf_other f κ n k m h =
    on k κ
    (λ e. on m n (λ d. absurd (h e d)) (λ d. ap (λ (x : ℕ → Bool). x m) (at_is f κ (at (f κ) n true) k e) ∙ at_other (f κ) n true m d ∙ ap (λ x. f x m) (sym e)))
    (λ e. ap (λ (x : ℕ → Bool). x m) (at_other f κ (at (f κ) n true) k e))

lf_exact : (f : ℕ → ℕ → Bool) (κ n k m : ℕ) → k ≡ κ → m ≡ n → at f κ (at (f κ) n true) k m ≡ true
lf_exact f κ n k m e d = ap (λ (x : ℕ → Bool). x m) (at_is f κ (at (f κ) n true) k e) ∙ at_is (f κ) n true m d

module _ (w : World) (L : Lawful w) where
  -- a page that some guest may read is enrolled for none
  pub readable_out : (i p : ℕ) → leb 1 (rank (w.right i p)) ≡ true → (g : ℕ) → enrolled w g p ≡ false
  readable_out i p e = no_pool_out w L p (some_right w L i p (leb-true 1 (rank (w.right i p)) e))

  drop_leaf : (s : State) (i k n : ℕ) → leaf_at (drop w s i) (root_at k ((drop w s i).guest i).spaces) n ≡ false
  unfolding drop
  drop_leaf s i k n = simp (eq-eqb i i refl)

  drop_map : (s : State) (i k n j : ℕ) → mapping_at (drop w s i) (root_at k ((drop w s i).guest i).spaces) n j ≡ 0
  unfolding drop
  drop_map s i k n j = simp (eq-eqb i i refl)

  pub alone_drop : (s : State) (i : ℕ) → alone w i (drop w s i) ≡ own_drop (given_of w i) (alone w i s)
  unfolding drop
  alone_drop s i = alone_path (alone w i (drop w s i)) (own_drop (given_of w i) (alone w i s))
      (simp (eq-eqb i i refl))
      (λ k. simp (eq-eqb i i refl))
      (λ k n. drop_leaf s i k n)
      (λ k n j. drop_map s i k n j)
      (simp (eq-eqb i i refl))
      (count_same ((drop w s i).free i) (enrolled w i) (w.pages i) (λ p. simp (eq-eqb i i refl)) ∙ count_all (w.pages i))
      (λ p k. readable_same (leb 1 (rank (w.right i p))) ((drop w s i).word p k) (s.word p k) (λ e. rw (readable_out i p e i)))

  module _ (s : State) (G : Good w s) (i : ℕ) where
    role : ℕ → Role
    role = G.0

    new_at : (p k : ℕ) → root_at k ((new_root s i p).guest i).spaces ≡ cond (eqb k (key_of (s.guest i).regs)) (Some p) (root_at k (s.guest i).spaces)
    unfolding new_root
    new_at p k = simp (eq-eqb i i refl)

    free_take : (p : ℕ) → s.free i p ≡ true → count (taken s.free i p i) (w.pages i) ≡ free_count w s i - 1
    free_take p f =
        count_same (taken s.free i p i) (at (s.free i) p false) (w.pages i) (λ q. simp (eq-eqb i i refl))
        ∙ count_take (s.free i) p (w.pages i) f (L.once i p (G.1.idle_zero i p f).0)

    -- roots and leaves of i are apart
    key_of_root : (k l r : ℕ) → role r ≡ is_root i k → role r ≡ is_root i l → k ≡ l
    key_of_root k l r a b = cc

    root_of_leaf : (r t n m p : ℕ) → role p ≡ is_leaf i r n → role p ≡ is_leaf i t m → r ≡ t
    root_of_leaf r t n m p a b = cc

    place_of_leaf : (r t n m p : ℕ) → role p ≡ is_leaf i r n → role p ≡ is_leaf i t m → n ≡ m
    place_of_leaf r t n m p a b = cc

    root_role : (k r : ℕ) → root_at k (s.guest i).spaces ≡ Some r → role r ≡ is_root i k
    unfolding role
    root_role k r e = G.1.root_in i k r e

    leaf_role : (k r n : ℕ) → root_at k (s.guest i).spaces ≡ Some r → ¬ (s.word r n ≡ 0) → role (page_in (s.word r n)) ≡ is_leaf i r n
    unfolding role
    leaf_role k r n e m = G.1.leaf_in i k r n (G.1.root_in i k r e) m

    pub alone_root : (p : ℕ) → s.free i p ≡ true → alone w i (new_root s i p) ≡ own_root (alone w i s)
    unfolding new_root
    alone_root p f = alone_path (alone w i (new_root s i p)) (own_root (alone w i s))
        (simp (eq-eqb i i refl))
        (λ k. ap is_some (new_at p k) ∙ by_test (λ b. is_some (cond b (Some p) (root_at k (s.guest i).spaces)) ≡ cond b true (is_some (root_at k (s.guest i).spaces))) (eqb k (key_of (s.guest i).regs)) (λ e. refl) (λ e. refl))
        (λ k n. ap (λ o. leaf_at (new_root s i p) o n) (new_at p k) ∙
        by_test (λ b. leaf_at (new_root s i p) (cond b (Some p) (root_at k (s.guest i).spaces)) n ≡ cond {A = ℕ → Bool} b (λ (m : ℕ). false) (λ m. leaf_at s (root_at k (s.guest i).spaces) m) n) (eqb k (key_of (s.guest i).regs))
        (λ e. rw ((G.1.idle_zero i p f).1 n))
        (λ e. leaf_same s (new_root s i p) (root_at k (s.guest i).spaces) n (λ r z. refl)))
        (λ k n j. ap (λ o. mapping_at (new_root s i p) o n j) (new_at p k) ∙
        by_test (λ b. mapping_at (new_root s i p) (cond b (Some p) (root_at k (s.guest i).spaces)) n j ≡ cond {A = ℕ → ℕ → ℕ} b (λ (m l : ℕ). 0) (λ m l. mapping_at s (root_at k (s.guest i).spaces) m l) n j) (eqb k (key_of (s.guest i).regs))
        (λ e. rw ((G.1.idle_zero i p f).1 n))
        (λ e. map_same s (new_root s i p) (root_at k (s.guest i).spaces) n j (λ r z. refl) (λ r z m. refl)))
        (simp (eq-eqb i i refl))
        (free_take p f)
        (λ q k. refl)

    -- i's pages are unreadable
    root_hid : (k r q : ℕ) → root_at k (s.guest i).spaces ≡ Some r → leb 1 (rank (w.right i q)) ≡ true → ¬ (q ≡ r)
    root_hid k r q e a qr = clash (G.1.used_root i k r (G.1.root_in i k r e)).0 (subst (λ x. enrolled w i x ≡ false) qr (readable_out i q a i))

    leaf_hid : (k r n q : ℕ) → root_at k (s.guest i).spaces ≡ Some r → ¬ (s.word r n ≡ 0) → leb 1 (rank (w.right i q)) ≡ true → ¬ (q ≡ page_in (s.word r n))
    leaf_hid k r n q e z a qr = clash (G.1.used_leaf i r n _ (G.1.leaf_in i k r n (G.1.root_in i k r e) z)).0 (subst (λ x. enrolled w i x ≡ false) qr (readable_out i q a i))

    -- a leaf taken at the place n of the present root r
    pub alone_leaf : (r n p : ℕ) → present s i ≡ Some r → s.word r n ≡ 0 → s.free i p ≡ true → alone w i (new_leaf s i r n p) ≡ own_leaf (alone w i s) n
    unfolding new_leaf
    alone_leaf r n p er z f = alone_path (alone w i t) (own_leaf (alone w i s) n)
        refl
        (λ k. refl)
        (λ k m.
        test (eqb k κ && eqb m n)
        (λ b. let kK : k ≡ κ = grind arith in let mn : m ≡ n = grind arith in
        leaf_exact k m kK mn ∙ sym (lf_exact (alone w i s).leaf κ n k m kK mn))
        (λ b. let h : k ≡ κ → m ≡ n → ⊥ = λ x y. grind arith in
        leaf_same s t (root_at k (s.guest i).spaces) m (λ q e. stay k q m e h) ∙ sym (lf_other (alone w i s).leaf κ n k m h)))
        (λ k m j.
        test (eqb k κ && eqb m n)
        (λ b. let kK : k ≡ κ = grind arith in let mn : m ≡ n = grind arith in map_exact k m j kK mn)
        (λ b. let h : k ≡ κ → m ≡ n → ⊥ = λ x y. grind arith in
        map_same s t (root_at k (s.guest i).spaces) m j (λ q e. stay k q m e h)
        (λ q e y. put_page s.word r n (leaf_mark p) (page_in (s.word q m)) j (λ c. root_leaf (root_role κ r er) (subst (λ x. role x ≡ is_leaf i q m) c (leaf_role k q m e y))))))
        refl
        (free_take p f)
        (λ q k. readable_same (leb 1 (rank (w.right i q))) ((new_leaf s i r n p).word q k) (s.word q k) (λ e. put_page s.word r n (leaf_mark p) q k (root_hid κ r q er e)))
      where
        κ : ℕ
        κ = key_of (s.guest i).regs

        t : State
        t = new_leaf s i r n p

        pr : ¬ (p ≡ r)
        pr c = clash f (subst (λ x. s.free i x ≡ false) (sym c) (G.1.used_root i κ r (G.1.root_in i κ r er)).1)

        stay : (k q m : ℕ) → root_at k (s.guest i).spaces ≡ Some q → (k ≡ κ → m ≡ n → ⊥) → t.word q m ≡ s.word q m
        stay k q m e h = on q r
            (λ c. put_place s.word r n (leaf_mark p) q m (λ d. h (key_of_root k κ r (subst (λ x. role x ≡ is_root i k) c (root_role k q e)) (root_role κ r er)) d))
            (λ c. put_page s.word r n (leaf_mark p) q m c)

        leaf_exact : (k m : ℕ) → k ≡ κ → m ≡ n → leaf_at t (root_at k (s.guest i).spaces) m ≡ true
        leaf_exact k m kK mn =
            ap (λ x. leaf_at t (root_at x (s.guest i).spaces) m) kK ∙ ap (λ o. leaf_at t o m) er ∙ ap (λ x. not (eqb (t.word r x) 0)) mn ∙ ap (λ x. not (eqb x 0)) (put_same s.word r n (leaf_mark p)) ∙ grind arith

        map_exact : (k m j : ℕ) → k ≡ κ → m ≡ n → mapping_at t (root_at k (s.guest i).spaces) m j ≡ mapping_at s (root_at k (s.guest i).spaces) m j
        map_exact k m j kK mn =
            let e : root_at k (s.guest i).spaces ≡ Some r = ap (λ x. root_at x (s.guest i).spaces) kK ∙ er in
            let a : t.word r m ≡ leaf_mark p = ap (t.word r) mn ∙ put_same s.word r n (leaf_mark p) in
            let b : s.word r m ≡ 0 = ap (s.word r) mn ∙ z in
            let c : t.word p j ≡ 0 = put_page s.word r n (leaf_mark p) p j pr ∙ (G.1.idle_zero i p f).1 j in
            ap (λ o. mapping_at t o m j) e ∙ ap (λ x. cond (eqb x 0) 0 (t.word (page_in x) j)) a ∙ ap (λ x. cond (eqb (leaf_mark p) 0) 0 (t.word x j)) (page_leaf p) ∙ ap (λ x. cond (eqb (leaf_mark p) 0) 0 x) c
            ∙ grind arith ∙ sym (ap (λ x. cond (eqb x 0) 0 (s.word (page_in x) j)) b) ∙ sym (ap (λ o. mapping_at s o m j) e)

    same_leaf : (r n k q m : ℕ) → present s i ≡ Some r → ¬ (s.word r n ≡ 0) → root_at k (s.guest i).spaces ≡ Some q → ¬ (s.word q m ≡ 0) → page_in (s.word q m) ≡ page_in (s.word r n) → (k ≡ key_of (s.guest i).regs) × (m ≡ n)
    same_leaf r n k q m er z e y c =
        let a = subst (λ x. role x ≡ is_leaf i q m) c (leaf_role k q m e y) in
        let b = leaf_role (key_of (s.guest i).regs) r n er z in
        let qr : q ≡ r = root_of_leaf q r m n _ a b in
        (key_of_root k (key_of (s.guest i).regs) r (subst (λ x. role x ≡ is_root i k) qr (root_role k q e)) (root_role (key_of (s.guest i).regs) r er), place_of_leaf q r m n _ a b)

    -- a mapping written at place j of the leaf at n
    pub alone_map : (r n j v : ℕ) → present s i ≡ Some r → ¬ (s.word r n ≡ 0) → alone w i (write s (page_in (s.word r n)) j v) ≡ own_map (alone w i s) n j v
    unfolding write
    alone_map r n j v er z = alone_path (alone w i t) (own_map (alone w i s) n j v)
        refl
        (λ k. refl)
        (λ k m. leaf_same s t (root_at k (s.guest i).spaces) m (λ q e. root_stay k q m e))
        (λ k m l.
        test (eqb k κ && eqb m n)
        (λ b. let kK : k ≡ κ = grind arith in let mn : m ≡ n = grind arith in
        here k m l kK mn ∙ on l j
        (λ d. ap (put s.word lp j v lp) d ∙ put_same s.word lp j v ∙ sym (upd_exact (alone w i s).map κ n j v k m l kK mn d))
        (λ d. put_place s.word lp j v lp l d ∙ sym (was k m l kK mn) ∙ sym (upd_here (alone w i s).map κ n j v k m l kK d)))
        (λ b. let h : k ≡ κ → m ≡ n → ⊥ = λ x y. grind arith in
        map_same s t (root_at k (s.guest i).spaces) m l (λ q e. root_stay k q m e)
        (λ q e y. put_page s.word lp j v (page_in (s.word q m)) l (λ c. let o = same_leaf r n k q m er z e y c in h o.0 o.1))
        ∙ sym (upd_other (alone w i s).map κ n j v k m l h)))
        refl
        refl
        (λ q k. readable_same (leb 1 (rank (w.right i q))) (t.word q k) (s.word q k) (λ e. put_page s.word lp j v q k (leaf_hid κ r n q er z e)))
      where
        κ : ℕ
        κ = key_of (s.guest i).regs

        lp : ℕ
        lp = page_in (s.word r n)

        t : State
        t = write s (page_in (s.word r n)) j v

        root_stay : (k q m : ℕ) → root_at k (s.guest i).spaces ≡ Some q → t.word q m ≡ s.word q m
        root_stay k q m e = put_page s.word lp j v q m (λ c. root_leaf (root_role k q e) (subst (λ x. role x ≡ is_leaf i r n) (sym c) (leaf_role κ r n er z)))

        here : (k m l : ℕ) → k ≡ κ → m ≡ n → mapping_at t (root_at k (s.guest i).spaces) m l ≡ put s.word lp j v lp l
        here k m l kK mn =
            let e : root_at k (s.guest i).spaces ≡ Some r = ap (λ x. root_at x (s.guest i).spaces) kK ∙ er in
            let a : t.word r m ≡ s.word r n = root_stay κ r m er ∙ ap (s.word r) mn in
            let b = ne_eqb (s.word r n) 0 z in
            ap (λ o. mapping_at t o m l) e ∙ ap (λ x. cond (eqb x 0) 0 (t.word (page_in x) l)) a ∙ ap (λ x. cond x 0 (t.word lp l)) b

        was : (k m l : ℕ) → k ≡ κ → m ≡ n → mapping_at s (root_at k (s.guest i).spaces) m l ≡ s.word lp l
        was k m l kK mn =
            let e : root_at k (s.guest i).spaces ≡ Some r = ap (λ x. root_at x (s.guest i).spaces) kK ∙ er in
            let b = ne_eqb (s.word r n) 0 z in
            ap (λ o. mapping_at s o m l) e ∙ ap (λ x. cond (eqb (s.word r x) 0) 0 (s.word (page_in (s.word r x)) l)) mn ∙ ap (λ x. cond x 0 (s.word lp l)) b

    -- a page of addresses flushed
    named_leaf : (n p : ℕ) → names s.word (s.guest i).spaces n p ≡ true → (r : ℕ) × (role p ≡ is_leaf i r n)
    unfolding role
    named_leaf n p e = named w L s G.0 G.1 i n p e

    pub alone_wipe : (n j : ℕ) → alone w i (wipe s i n j) ≡ own_wipe (alone w i s) n j
    unfolding wipe
    alone_wipe n j = alone_path (alone w i t) (own_wipe (alone w i s) n j)
        refl
        (λ k. refl)
        (λ k m. leaf_same s t (root_at k (s.guest i).spaces) m (λ r e. root_stay k r m e))
        (λ k m l. by_option (λ o. root_at k (s.guest i).spaces ≡ o → mapping_at t o m l ≡ cond (eqb m n && eqb l j) 0 (mapping_at s o m l)) (root_at k (s.guest i).spaces)
        (λ e z. by_test (λ b. ◌≡◌ {A = ℕ} 0 (cond b 0 0)) (eqb m n && eqb l j) (λ y. refl) (λ y. refl))
        (λ r e z. ap (λ x. cond (eqb x 0) 0 (t.word (page_in x) l)) (root_stay k r m e)
        ∙ by_test (λ b. eqb (s.word r m) 0 ≡ b → cond b 0 (t.word (page_in (s.word r m)) l) ≡ cond (eqb m n && eqb l j) 0 (cond b 0 (s.word (page_in (s.word r m)) l))) (eqb (s.word r m) 0)
        (λ y f. by_test (λ b. ◌≡◌ {A = ℕ} 0 (cond b 0 0)) (eqb m n && eqb l j) (λ y. refl) (λ y. refl))
        (λ y f. ap (λ b. cond (b && eqb l j) 0 (s.word (page_in (s.word r m)) l)) (named_at k r m e (eqb-false (s.word r m) 0 f)))
        refl)
        refl)
        refl
        refl
        (λ q k. readable_same (leb 1 (rank (w.right i q))) (t.word q k) (s.word q k) (λ e. hidden q k e))
      where
        t : State
        t = wipe s i n j

        root_stay : (k r m : ℕ) → root_at k (s.guest i).spaces ≡ Some r → t.word r m ≡ s.word r m
        root_stay k r m e = unnamed_root w L s G.0 G.1 i n i k r m j (G.1.root_in i k r e)

        hidden : (q k : ℕ) → leb 1 (rank (w.right i q)) ≡ true → t.word q k ≡ s.word q k
        hidden q k e = test (names s.word (s.guest i).spaces n q)
            (λ b. let o = named w L s G.0 G.1 i n q b in clash (G.1.used_leaf i o.0 n q o.1).0 (readable_out i q e i))
            (λ b. ap (λ x. cond (x && eqb k j) 0 (s.word q k)) b)

        -- the leaf at m is one of those at n exactly if m is n
        named_at : (k r m : ℕ) → root_at k (s.guest i).spaces ≡ Some r → ¬ (s.word r m ≡ 0) → names s.word (s.guest i).spaces n (page_in (s.word r m)) ≡ eqb m n
        named_at k r m e z = on m n
            (λ mn.
            let x = root_listed k (s.guest i).spaces r e in
            let a = names_in s.word (s.guest i).spaces n x.0 x.1 (λ y. z (ap₂ s.word (sym x.2) mn ∙ y)) in
            ap (λ y. names s.word (s.guest i).spaces n (page_in y)) (ap₂ s.word (sym x.2) mn) ∙ a ∙ sym (eq-eqb m n mn))
            (λ mn. test (names s.word (s.guest i).spaces n (page_in (s.word r m)))
            (λ b. let o = named_leaf n (page_in (s.word r m)) b in absurd (mn (place_of_leaf r o.0 m n (page_in (s.word r m)) (leaf_role k r m e z) o.1)))
            (λ b. b ∙ sym (ne_eqb m n mn)))
