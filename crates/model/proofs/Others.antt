-- A call of one guest changes nothing that another has, but for what it stores.
use Rattle.std.proofs.Common.{◌≡◌, ℕ, ◌/◌, ◌%◌, Bool, true, false, cond, ◌&&◌, eqb, leb, length, is_some, sym, refl, ap, ◌∙◌, subst}
use Rattle.platform.specs.Rights.{rank}
use Rattle.model.specs.Fills.{Picks}
use Rattle.model.proofs.Plain.{World, State, key_of, Guest, at, enrolled, root_at, present, or_zero, leaf_mark, new_root, new_leaf, drop, write, names, wipe, cleared, crowded, rooted, rooted_by, roomy, leafed, filled, mapping_at}
use Rattle.model.proofs.Sound.{Lawful}
use Rattle.model.proofs.Runs.{FairFault}
use Rattle.model.proofs.Basics.{test, clash, by_option, at_other, put_page}
use Rattle.model.proofs.Keeps.{one_pool, named}
use Rattle.model.proofs.Filling.{Good, HasRoot, HasLeaf, good_rooted, good_roomy, good_leafed}
use Rattle.model.proofs.Counts.{count_same}
use Rattle.model.proofs.View.{alone, leaf_at}
use Rattle.model.proofs.Alone.{alone_path, leaf_same, map_same, readable_same, readable_out}

-- t differs from s in what is guest h's only
pub record OnlyOf (w : World) (h : ℕ) (s t : State) : Type 0 where
  pub words : (p k : ℕ) → enrolled w h p ≡ false → t.word p k ≡ s.word p k
  pub guests : (g : ℕ) → ¬ (g ≡ h) → t.guest g ≡ s.guest g
  pub frees : (g p : ℕ) → ¬ (g ≡ h) → t.free g p ≡ s.free g p

module _ (w : World) (L : Lawful w) (h : ℕ) where
  pub only_refl : (s : State) → OnlyOf w h s s
  only_refl s = record { words = λ p k e. refl; guests = λ g n. refl; frees = λ g p n. refl }

  only_trans : (s t u : State) → OnlyOf w h s t → OnlyOf w h t u → OnlyOf w h s u
  only_trans s t u a b = record { words = λ p k e. b.words p k e ∙ a.words p k e; guests = λ g n. b.guests g n ∙ a.guests g n; frees = λ g p n. b.frees g p n ∙ a.frees g p n }

  only_cond : (b : Bool) (s t u : State) → OnlyOf w h s t → OnlyOf w h s u → OnlyOf w h s (cond b t u)
  only_cond true s t u x y = x
  only_cond false s t u x y = y

  pub only_drop : (s : State) → OnlyOf w h s (drop w s h)
  unfolding drop
  only_drop s = record {
    words = λ p k e. ap (λ b. cond b 0 (s.word p k)) e;
    guests = λ g n. at_other s.guest h _ g n;
    frees = λ g p n. ap (λ (f : ℕ → Bool). f p) (at_other s.free h (enrolled w h) g n);
  }

  pub only_wipe : (s : State) (n j : ℕ) → Good w s → OnlyOf w h s (wipe s h n j)
  unfolding wipe
  only_wipe s n j G = record {
    words = λ p k e. test (names s.word (s.guest h).spaces n p)
        (λ b. let o = named w L s G.0 G.1 h n p b in clash (G.1.used_leaf h o.0 n p o.1).0 e)
        (λ b. ap (λ x. cond (x && eqb k j) 0 (s.word p k)) b);
    guests = λ g n. refl;
    frees = λ g p n. refl;
  }

  only_root : (s : State) (p : ℕ) → OnlyOf w h s (new_root s h p)
  unfolding new_root
  only_root s p = record {
    words = λ q k e. refl;
    guests = λ g n. at_other s.guest h _ g n;
    frees = λ g q n. ap (λ (f : ℕ → Bool). f q) (at_other s.free h (at (s.free h) p false) g n);
  }

  only_write : (s : State) (p k v : ℕ) → enrolled w h p ≡ true → OnlyOf w h s (write s p k v)
  unfolding write
  only_write s p k v e = record {
    words = λ q j n. put_page s.word p k v q j (λ c. clash e (subst (λ x. enrolled w h x ≡ false) c n));
    guests = λ g n. refl;
    frees = λ g q n. refl;
  }

  only_leaf : (s : State) (r n p : ℕ) → enrolled w h r ≡ true → OnlyOf w h s (new_leaf s h r n p)
  unfolding new_leaf
  only_leaf s r n p e = record {
    words = λ q j f. put_page s.word r n (leaf_mark p) q j (λ c. clash e (subst (λ x. enrolled w h x ≡ false) c f));
    guests = λ g f. refl;
    frees = λ g q f. ap (λ (x : ℕ → Bool). x q) (at_other s.free h (at (s.free h) p false) g f);
  }

  only_rooted : (s : State) (p : ℕ) → OnlyOf w h s (rooted w s h p)
  unfolding rooted
  only_rooted s p = by_option (λ o. OnlyOf w h s (rooted_by w s h p o)) (present s h)
      (λ e. only_trans s (cleared w s h (crowded w s h)) (new_root (cleared w s h (crowded w s h)) h p) (only_cond (crowded w s h) s (drop w s h) s (only_drop s) (only_refl s)) (only_root (cleared w s h (crowded w s h)) p))
      (λ r e. only_refl s)

  only_roomy : (s : State) (n p : ℕ) → OnlyOf w h s (roomy w s h n p)
  unfolding roomy
  only_roomy s n p = only_cond _ s (new_root (drop w s h) h p) s (only_trans s (drop w s h) (new_root (drop w s h) h p) (only_drop s) (only_root (drop w s h) p)) (only_refl s)

  only_leafed : (s : State) (n p : ℕ) → Good w s → HasRoot s h → OnlyOf w h s (leafed s h n p)
  unfolding leafed
  only_leafed s n p G H = only_cond _ s (new_leaf s h (or_zero (present s h)) n p) s
      (only_leaf s (or_zero (present s h)) n p (subst (λ x. enrolled w h x ≡ true) (sym (ap or_zero H.1)) (G.1.used_root h (key_of (s.guest h).regs) H.0 (G.1.root_in h (key_of (s.guest h).regs) H.0 H.1)).0))
      (only_refl s)

  pub only_filled : (q : Picks) (s : State) (va v : ℕ) → Good w s → FairFault w q s h va → OnlyOf w h s (filled w q s h va v)
  unfolding filled HasLeaf
  only_filled q s va v G F =
      let n = va / 1048576 in
      let s1 = rooted w s h q.first in
      let a = good_rooted w L s h q.first G F.first_free in
      let s2 = roomy w s1 h n q.afresh in
      let b = good_roomy w L s1 h n q.afresh a.0 a.1 F.afresh_free in
      let s3 = leafed s2 h n q.leaf in
      let c = good_leafed w L s2 h n q.leaf b.0 b.1 F.leaf_free in
      only_trans s s1 _ (only_rooted s q.first)
      (only_trans s1 s2 _ (only_roomy s1 n q.afresh)
      (only_trans s2 s3 _ (only_leafed s2 n q.leaf b.0 b.1)
      (only_write s3 _ (va / 4096 % 256) v (c.1.used_leaf h c.2.0 n _ c.2.1).0)))

  pub only_guest : (s : State) (x : Guest) → OnlyOf w h s (record { word = s.word; free = s.free; guest = at s.guest h x; running = s.running })
  only_guest s x = record { words = λ p k e. refl; guests = λ g n. at_other s.guest h x g n; frees = λ g p n. refl }

  -- another guest i sees nothing of it
  pub alone_other : (i : ℕ) (s t : State) → ¬ (i ≡ h) → Good w s → OnlyOf w h s t → alone w i t ≡ alone w i s
  alone_other i s t n G O =
      let same = O.guests i n in
      alone_path (alone w i t) (alone w i s)
      (ap (λ (x : Guest). x.regs) same)
      (λ k. ap (λ (x : Guest). is_some (root_at k x.spaces)) same)
      (λ k m. ap (λ (x : Guest). leaf_at t (root_at k x.spaces) m) same ∙ leaf_same s t (root_at k (s.guest i).spaces) m (λ r e. O.words r m (apart r (G.1.used_root i k r (G.1.root_in i k r e)).0)))
      (λ k m j. ap (λ (x : Guest). mapping_at t (root_at k x.spaces) m j) same ∙ map_same s t (root_at k (s.guest i).spaces) m j
      (λ r e. O.words r m (apart r (G.1.used_root i k r (G.1.root_in i k r e)).0))
      (λ r e z. O.words _ j (apart _ (G.1.used_leaf i r m _ (G.1.leaf_in i k r m (G.1.root_in i k r e) z)).0)))
      (ap (λ (x : Guest). length x.spaces) same)
      (count_same (t.free i) (s.free i) (w.pages i) (λ p. O.frees i p n))
      (λ p k. readable_same (leb 1 (rank (w.right i p))) (t.word p k) (s.word p k) (λ e. O.words p k (readable_out w L i p e h)))
    where
      apart : (p : ℕ) → enrolled w i p ≡ true → enrolled w h p ≡ false
      apart p e = test (enrolled w h p) (λ b. absurd (n (one_pool w L i h p e b))) (λ b. b)
