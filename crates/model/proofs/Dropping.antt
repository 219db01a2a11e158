-- A drop on a board is a drop on the plain board.
use Rattle.std.proofs.Common.{◌≡◌, ℕ, Bool, true, false, cond, not, ◌&&◌, eqb, List, [], is_ok, sym, refl, ap, ◌∙◌, rules, eqb-true}
use Rattle.platform.specs.Books.{Book}
use Rattle.platform.specs.Guests.{is_guest}
use Rattle.platform.specs.Keepers.{give_answer}
use Rattle.platform.specs.Lists.{member}
use Rattle.model.specs.Boards.{Board, word_at, with_spaces}
use Rattle.model.specs.Boards as board
use Rattle.model.specs.Fills.{dropped}
use Rattle.model.proofs.Plain.{World, enrolled, at, drop}
use Rattle.model.proofs.Basics.{test, by_test}
use Rattle.model.proofs.Filling.{Good}
use Rattle.model.proofs.Abstract.{plain_guest, who, plain, world, state_path, drop_all}

-- each guest's table pages are those that it has enrolled
abbrev pub Tied : Board → Type 0
Tied b = (g : ℕ) → (b.guest g).tables ≡ b.keeper.pages g

pub world_path : (v w : World) → ((p : ℕ) → v.has p ≡ w.has p) → ((g p : ℕ) → v.right g p ≡ w.right g p) → ((p : ℕ) → v.pool p ≡ w.pool p) → ((g : ℕ) → v.pages g ≡ w.pages g) → v.window ≡ w.window → ((g : ℕ) → v.admitted g ≡ w.admitted g) → v ≡ w
world_path v w a b c d e f = λ i. record { has = λ p. a p i; right = λ g p. b g p i; pool = λ p. c p i; pages = λ g. d g i; window = e i; admitted = λ g. f g i }

-- a guest's record changed, in what the plain board knows of it and in what no call changes
pub guest_changed : (b : Board) (g h : ℕ) (x : board.Guest) → plain_guest (cond (eqb h g) x (b.guest h)) ≡ at (λ i. plain_guest (b.guest i)) g (plain_guest x) h
guest_changed b g h x = by_test (λ t. plain_guest (cond t x (b.guest h)) ≡ cond t (plain_guest x) (plain_guest (b.guest h))) (eqb h g) (λ e. refl) (λ e. refl)

pub admitted_kept : (b : Board) (g h : ℕ) (x : board.Guest) → x.admitted ≡ (b.guest g).admitted → (cond (eqb h g) x (b.guest h)).admitted ≡ (b.guest h).admitted
admitted_kept b g h x e = by_test (λ t. eqb h g ≡ t → (cond t x (b.guest h)).admitted ≡ (b.guest h).admitted) (eqb h g) (λ t d. e ∙ ap (λ y. (b.guest y).admitted) (sym (eqb-true h g d))) (λ t d. refl) refl

pub tables_kept : (b : Board) (g h : ℕ) (x : board.Guest) → x.tables ≡ (b.guest g).tables → (cond (eqb h g) x (b.guest h)).tables ≡ (b.guest h).tables
tables_kept b g h x e = by_test (λ t. eqb h g ≡ t → (cond t x (b.guest h)).tables ≡ (b.guest h).tables) (eqb h g) (λ t d. e ∙ ap (λ y. (b.guest y).tables) (sym (eqb-true h g d))) (λ t d. refl) refl

module _ (b : Board) (g : ℕ) (guest : is_guest g ≡ true) (tied : Tied b) where
  in_use : (q : ℕ) → (member q (b.guest g).tables && is_ok (give_answer b.keeper g q)) ≡ (enrolled (world b) g q && not (b.keeper.free g q))
  in_use q = ap (λ l. member q l && is_ok (give_answer b.keeper g q)) (tied g) ∙ in_use_of (member q (b.keeper.pages g))
    where
      in_use_of : (m : Bool) → (member q (b.keeper.pages g) && is_ok (give_answer b.keeper g q)) ≡ (enrolled (world b) g q && not (b.keeper.free g q))
      in_use_of m = search rules

  module _ (G : Good (world b) (plain b)) where
    zero_word : (q j : ℕ) → cond (enrolled (world b) g q && not (b.keeper.free g q)) 0 (word_at b.memory q j) ≡ cond (enrolled (world b) g q) 0 (word_at b.memory q j)
    zero_word q j = test (b.keeper.free g q)
        (λ f. let z = G.1.idle_zero g q f in ap (λ t. cond (enrolled (world b) g q && not t) 0 (word_at b.memory q j)) f ∙ ap (λ t. cond (t && false) 0 (word_at b.memory q j)) z.0 ∙ z.1 j ∙ sym (ap (λ t. cond t 0 (word_at b.memory q j)) z.0))
        (λ f. ap (λ t. cond (enrolled (world b) g q && not t) 0 (word_at b.memory q j)) f ∙ and_true (enrolled (world b) g q) (word_at b.memory q j))
      where
        and_true : (e : Bool) (x : ℕ) → cond (e && true) 0 x ≡ cond e 0 x
        and_true e x = search rules

    free_page : (h q : ℕ) → cond (eqb h g && (enrolled (world b) g q && not (b.keeper.free g q))) true (b.keeper.free h q) ≡ at b.keeper.free g (enrolled (world b) g) h q
    free_page h q = by_test (λ t. eqb h g ≡ t → cond (t && (enrolled (world b) g q && not (b.keeper.free g q))) true (b.keeper.free h q) ≡ cond t (enrolled (world b) g) (b.keeper.free h) q) (eqb h g)
        (λ t d. ap (λ y. cond (enrolled (world b) g q && not (b.keeper.free g q)) true (b.keeper.free y q)) (eqb-true h g d) ∙ free_is (enrolled (world b) g q) (b.keeper.free g q) (λ f. (G.1.idle_zero g q f).0))
        (λ t d. refl)
        refl
      where
        free_is : (e f : Bool) → (f ≡ true → e ≡ true) → cond (e && not f) true f ≡ e
        free_is e f h = search rules

    pub plain_drop : plain (dropped b g) ≡ drop (world b) (plain b) g
    unfolding dropped drop
    plain_drop =
        let D = drop_all b g (b.guest g).tables in
        state_path (plain (dropped b g)) (drop (world b) (plain b) g)
        (λ q j. D.words q j ∙ ap (λ t. cond t 0 (word_at b.memory q j)) (in_use q) ∙ zero_word q j)
        (λ h q. D.frees h q ∙ ap (λ t. cond (eqb h g && t) true (b.keeper.free h q)) (in_use q) ∙ free_page h q)
        (λ h. ap (λ (f : ℕ → board.Guest). plain_guest (cond (eqb h g) (with_spaces (b.guest g) []) (f h))) D.same_guest ∙ guest_changed b g h (with_spaces (b.guest g) []))
        (ap who D.same_running)

  pub world_drop : world (dropped b g) ≡ world b
  unfolding dropped
  world_drop =
      let D = drop_all b g (b.guest g).tables in
      world_path (world (dropped b g)) (world b)
      (λ p. D.same_has p)
      (λ h p. ap (λ (x : Book). x.right h p) D.same_book)
      (λ p. ap (λ (x : Book). x.pool p) D.same_book)
      (λ h. ap (λ (f : ℕ → List ℕ). f h) D.same_pages)
      D.same_window
      (λ h. ap (λ (f : ℕ → board.Guest). (cond (eqb h g) (with_spaces (b.guest g) []) (f h)).admitted) D.same_guest ∙ admitted_kept b g h (with_spaces (b.guest g) []) refl)

  pub tied_drop : Tied (dropped b g)
  unfolding dropped
  tied_drop h =
      let D = drop_all b g (b.guest g).tables in
      ap (λ (f : ℕ → board.Guest). (cond (eqb h g) (with_spaces (b.guest g) []) (f h)).tables) D.same_guest
      ∙ tables_kept b g h (with_spaces (b.guest g) []) refl ∙ tied h ∙ sym (ap (λ (f : ℕ → List ℕ). f h) D.same_pages)

  pub running_drop : (dropped b g).running ≡ b.running
  unfolding dropped
  running_drop = (drop_all b g (b.guest g).tables).same_running
