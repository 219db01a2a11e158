-- Filling the tables of a board is filling those of the plain board, and no page is refused.
use Rattle.std.proofs.Common.{◌≡◌, ℕ, ◌<◌, ◌≤◌, Bool, true, false, cond, ◌&&◌, ◌||◌, eqb, leb, [], length, Some, None, sym, refl, ap, ◌∙◌, subst, ap₂, arith, lit<, eq-eqb, eqb-true, leb-false}
use borrow.Author.Tests.{eqb-false}
use Rattle.std.proofs.lemmas.Bool.{lt-ltb}
use Rattle.platform.specs.Guests.{is_guest}
use Rattle.platform.specs.Keepers.{take_refusal}
use Rattle.platform.specs.Memories.{inside, written}
use Rattle.descriptor.specs.Entries.{table_page}
use Rattle.model.specs.Boards.{Board, word_at, with_spaces, present_root}
use Rattle.model.specs.Boards as board
use Rattle.model.specs.Fills.{Reached, reached, and_then, Picks, take_root, leaf_taken, make_room, dropped, MayTake, FairRoot, FairRoom, FairLeaf, Where}
use Rattle.model.specs.Fills as fills
use Rattle.model.proofs.Plain.{World, State, enrolled, free_count, leaf_mark, page_in, new_root, new_leaf, drop, write, present, or_zero, place, crowded, cleared, rooted, rooted_by, roomy, leafed}
use Rattle.model.proofs.Sound.{Lawful}
use Rattle.model.proofs.Basics.{by_test, by_option, clash, none_some}
use Rattle.model.proofs.Keeps.{page_leaf}
use Rattle.model.proofs.Filling.{Good, HasLeaf, present_new, place_new, good_rooted, good_roomy, good_leafed}
use Rattle.model.proofs.Progress.{drop_some, cleared_some, leaf_some}
use Rattle.model.proofs.Abstract.{plain, world, length_same}
use Rattle.model.proofs.Dropping.{Tied, plain_drop, world_drop, tied_drop, running_drop}
use Rattle.model.proofs.Taking.{present_same, none_same, not_refused, Kept, kept_refl, kept_trans, root_found, plain_root, kept_root, plain_leaf, kept_leaf, plain_write, kept_write}

-- what is known of a board between two steps of a fault of guest g
pub record Fit (b : Board) (g : ℕ) : Type 0 where
  pub guest : is_guest g ≡ true
  pub tied : Tied b
  pub lawful : Lawful (world b)
  pub good : Good (world b) (plain b)
  pub two : 2 ≤ length (b.keeper.pages g)

pub fit_next : (b c : Board) (g : ℕ) → Fit b g → Kept b c → Good (world b) (plain c) → Fit c g
fit_next b c g F K G = record {
  guest = F.guest;
  tied = K.still_tied F.tied;
  lawful = subst Lawful (sym K.same_world) F.lawful;
  good = subst (λ (w : World). Good w (plain c)) (sym K.same_world) G;
  two = subst (λ (w : World). 2 ≤ length (w.pages g)) (sym K.same_world) F.two;
}

pub kept_drop : (b : Board) (g : ℕ) → Fit b g → Kept b (dropped b g)
kept_drop b g F = record { same_world = world_drop b g F.guest F.tied; still_tied = λ t. tied_drop b g F.guest F.tied; same_running = running_drop b g F.guest F.tied }

-- counts on a board that is a plain board
count_there : (b c : Board) (g : ℕ) (s : State) → Kept b c → plain c ≡ s → ¬ (free_count (world b) s g ≡ 0) → ¬ (free_count (world c) (plain c) g ≡ 0)
count_there b c g s K e n z = n (ap₂ (λ (w : World) (t : State). free_count w t g) (sym K.same_world) (sym e) ∙ z)

-- room for a root
crowded_same : (b : Board) (g : ℕ) → Fit b g → fills.crowded b g ≡ crowded (world b) (plain b) g
crowded_same b g F = ap₂ (λ (n : ℕ) (t : Bool). leb 4 n || t) (sym (length_same (b.guest g).spaces)) (none_same b g F.guest)

pub record Room (b : Board) (g : ℕ) (c : Board) : Type 0 where
  pub same : plain c ≡ cleared (world b) (plain b) g (crowded (world b) (plain b) g)
  pub kept : Kept b c
  pub few : length (c.guest g).spaces < 4

dropped_few : (b : Board) (g : ℕ) → length ((dropped b g).guest g).spaces < 4
unfolding dropped
dropped_few b g = subst (λ t. length (cond t (with_spaces (b.guest g) []) ((fills.drop_pages b g (b.guest g).tables).guest g)).spaces < 4) (sym (eq-eqb g g refl)) (lit< tt)

pub room : (b : Board) (g : ℕ) → Fit b g → Room b g (make_room b g)
room b g F = by_test (λ t. fills.crowded b g ≡ t → Room b g (cond t (dropped b g) b)) (fills.crowded b g)
    (λ t d. record {
      same = plain_drop b g F.guest F.tied F.good ∙ sym (ap (cleared (world b) (plain b) g) (sym (crowded_same b g F) ∙ d));
      kept = kept_drop b g F;
      few = dropped_few b g;
    })
    (λ t d. record {
      same = sym (ap (cleared (world b) (plain b) g) (sym (crowded_same b g F) ∙ d));
      kept = kept_refl b;
      few = let e : leb 4 (length (b.guest g).spaces) ≡ false = grind arith in omega (arith, leb-false 4 (length (b.guest g).spaces) e);
    })
    refl

-- a step of a fault that comes to the present root, as the plain board makes it
pub record Does (b : Board) (g : ℕ) (s : State) (o : Reached ℕ) : Type 0 where
  pub after : Board
  pub found : ℕ
  pub is : o ≡ reached after found
  pub same : plain after ≡ s
  pub kept : Kept b after
  pub root : present s g ≡ Some found

-- a root taken on a board that has room
taken : (b c : Board) (g p : ℕ) (s : State) → Kept b c → plain c ≡ s → length (c.guest g).spaces < 4 → is_guest g ≡ true → ¬ (free_count (world b) s g ≡ 0)
    → MayTake c g p → Does b g (new_root s g p) (take_root c g p) × (s.free g p ≡ true)
taken b c g p s K e l i n M =
    let t = not_refused c g i (count_there b c g s K e n) in (
      record {
        after = _;
        found = p;
        is = root_found c g p t;
        same = plain_root c g p l ∙ ap (λ (x : State). new_root x g p) e;
        kept = kept_trans b c _ K (kept_root c g p);
        root = present_new s g p;
      },
      ap (λ (x : State). x.free g p) (sym e) ∙ (M t).1,
    )

pub do_rooted : (b : Board) (g p : ℕ) → Fit b g → FairRoot b g p
    → Does b g (rooted (world b) (plain b) g p) (fills.rooted b g p) × (present (plain b) g ≡ None → (cleared (world b) (plain b) g (crowded (world b) (plain b) g)).free g p ≡ true)
unfolding fills.rooted rooted
do_rooted b g p F M =
    let q = present_same b g in
    by_option (λ o. present_root b g ≡ o → Does b g (rooted (world b) (plain b) g p) (fills.rooted_by b g p o) × (present (plain b) g ≡ None → (cleared (world b) (plain b) g (crowded (world b) (plain b) g)).free g p ≡ true)) (present_root b g)
    (λ e d.
    let R = room b g F in
    let t = taken b (make_room b g) g p (cleared (world b) (plain b) g (crowded (world b) (plain b) g)) R.kept R.same R.few F.guest (cleared_some (world b) F.lawful g F.two (plain b)) (M d) in
    let y : State = rooted_by (world b) (plain b) g p (present (plain b) g) in
    let z : rooted_by (world b) (plain b) g p None ≡ y = sym (ap (rooted_by (world b) (plain b) g p) (q ∙ d)) in
    (record { after = t.0.after; found = t.0.found; is = t.0.is; same = t.0.same ∙ z; kept = t.0.kept; root = subst (λ (x : State). present x g ≡ Some t.0.found) z t.0.root }, λ z. t.1))
    (λ r e d.
    let z : plain b ≡ rooted_by (world b) (plain b) g p (present (plain b) g) = sym (ap (rooted_by (world b) (plain b) g p) (q ∙ d)) in
    (record { after = b; found = r; is = refl; same = z; kept = kept_refl b; root = subst (λ (x : State). present x g ≡ Some r) z (q ∙ d) }, λ z. none_some z (q ∙ d)))
    refl

-- the place of the present root
place_there : (b : Board) (g root i : ℕ) → present (plain b) g ≡ Some root → word_at b.memory root i ≡ place (plain b) g i
place_there b g root i e = ap (λ o. word_at b.memory (or_zero o) i) (sym e)

short_same : (b : Board) (g root i : ℕ) → Fit b g → present (plain b) g ≡ Some root
    → fills.short b g root i ≡ (eqb (place (plain b) g i) 0 && eqb (free_count (world b) (plain b) g) 0)
short_same b g root i F e = ap₂ (λ (x : ℕ) (t : Bool). eqb x 0 && t) (place_there b g root i e) (none_same b g F.guest)

pub do_roomy : (b : Board) (g root i p : ℕ) → Fit b g → present (plain b) g ≡ Some root → FairRoom b g root i p
    → Does b g (roomy (world b) (plain b) g i p) (fills.roomy b g root i p)
    × ((eqb (place (plain b) g i) 0 && eqb (free_count (world b) (plain b) g) 0) ≡ true → (drop (world b) (plain b) g).free g p ≡ true)
unfolding fills.roomy roomy
do_roomy b g root i p F e M =
    let q = short_same b g root i F e in
    by_test (λ t. fills.short b g root i ≡ t → Does b g (roomy (world b) (plain b) g i p) (cond t (take_root (dropped b g) g p) (reached b root)) × ((eqb (place (plain b) g i) 0 && eqb (free_count (world b) (plain b) g) 0) ≡ true → (drop (world b) (plain b) g).free g p ≡ true)) (fills.short b g root i)
    (λ t d.
    let x = taken b (dropped b g) g p (drop (world b) (plain b) g) (kept_drop b g F) (plain_drop b g F.guest F.tied F.good) (dropped_few b g) F.guest (drop_some (world b) F.lawful g F.two (plain b)) (M d) in
    let z : new_root (drop (world b) (plain b) g) g p ≡ cond (eqb (place (plain b) g i) 0 && eqb (free_count (world b) (plain b) g) 0) (new_root (drop (world b) (plain b) g) g p) (plain b) = sym (ap (λ y. cond y (new_root (drop (world b) (plain b) g) g p) (plain b)) (sym q ∙ d)) in
    (record { after = x.0.after; found = x.0.found; is = x.0.is; same = x.0.same ∙ z; kept = x.0.kept; root = subst (λ (y : State). present y g ≡ Some x.0.found) z x.0.root }, λ y. x.1))
    (λ t d.
    let z : plain b ≡ cond (eqb (place (plain b) g i) 0 && eqb (free_count (world b) (plain b) g) 0) (new_root (drop (world b) (plain b) g) g p) (plain b) = sym (ap (λ y. cond y (new_root (drop (world b) (plain b) g) g p) (plain b)) (sym q ∙ d)) in
    (record { after = b; found = root; is = refl; same = z; kept = kept_refl b; root = subst (λ (y : State). present y g ≡ Some root) z e }, λ y. clash (q ∙ y) d))
    refl

-- an enrolled page is there, and its number is small
there : (b : Board) (g p k : ℕ) → Lawful (world b) → enrolled (world b) g p ≡ true → k < 1024 → inside b.memory p k ≡ true
there b g p k L e l = ap₂ ◌&&◌ (L.is_present g p e) (lt-ltb k 1024 l)

small : (b : Board) (g p : ℕ) → Lawful (world b) → enrolled (world b) g p ≡ true → p < 1048576
small b g p L e = omega (arith, L.in_window g p e, L.window_size)

root_enrolled : (b : Board) (g root : ℕ) → Fit b g → present (plain b) g ≡ Some root → enrolled (world b) g root ≡ true
root_enrolled b g root F e = (F.good.1.used_root g _ root (F.good.1.root_in g _ root e)).0

page_same : (v : ℕ) → v ≡ leaf_mark (page_in v) → page_in v < 1048576 → table_page v ≡ page_in v
page_same v e l = omega arith

-- a leaf for place i
pub record Leafs (b : Board) (g i : ℕ) (s : State) (o : Reached ℕ) : Type 0 where
  pub after : Board
  pub found : ℕ
  pub is : o ≡ reached after found
  pub same : plain after ≡ s
  pub kept : Kept b after
  pub leaf : page_in (place s g i) ≡ found

pub do_leafed : (b : Board) (g root i p : ℕ) → Fit b g → i < 1024 → present (plain b) g ≡ Some root
    → (place (plain b) g i ≡ 0 → ¬ (free_count (world b) (plain b) g ≡ 0)) → FairLeaf b g root i p
    → Leafs b g i (leafed (plain b) g i p) (fills.leafed b g root i p) × (eqb (place (plain b) g i) 0 ≡ true → b.keeper.free g p ≡ true)
unfolding fills.leafed leafed
do_leafed b g root i p F l e n M =
    let q = place_there b g root i e in
    by_test (λ t. eqb (word_at b.memory root i) 0 ≡ t → Leafs b g i (cond (eqb (place (plain b) g i) 0) (new_leaf (plain b) g (or_zero (present (plain b) g)) i p) (plain b)) (cond t (leaf_taken b g root i p (take_refusal b.keeper g)) (reached b (table_page (word_at b.memory root i)))) × (eqb (place (plain b) g i) 0 ≡ true → b.keeper.free g p ≡ true)) (eqb (word_at b.memory root i) 0)
    (λ t d.
    let c = not_refused b g F.guest (n (sym q ∙ eqb-true (word_at b.memory root i) 0 d)) in
    let m = M d c in
    let z : new_leaf (plain b) g root i p ≡ cond (eqb (place (plain b) g i) 0) (new_leaf (plain b) g (or_zero (present (plain b) g)) i p) (plain b) =
    ap (λ o. new_leaf (plain b) g (or_zero o) i p) (sym e) ∙ sym (ap (λ y. cond y (new_leaf (plain b) g (or_zero (present (plain b) g)) i p) (plain b)) (ap (λ x. eqb x 0) (sym q) ∙ d)) in (
      record {
        after = _;
        found = p;
        is = ap (leaf_taken b g root i p) c;
        same = plain_leaf b g root i p (there b g root i F.lawful (root_enrolled b g root F e) l) (small b g p F.lawful m.0) ∙ z;
        kept = kept_leaf b g root i p;
        leaf = ap (λ (x : State). page_in (place x g i)) (sym z) ∙ ap (λ o. page_in (place (new_leaf (plain b) g (or_zero o) i p) g i)) (sym e) ∙ ap page_in (place_new (plain b) g i p) ∙ page_leaf p;
      },
      λ y. m.1,
    ))
    (λ t d.
    let v : ¬ (word_at b.memory root i ≡ 0) = eqb-false (word_at b.memory root i) 0 d in
    let r = F.good.1.root_in g _ root e in
    let en = (F.good.1.used_leaf g root i _ (F.good.1.leaf_in g _ root i r v)).0 in
    let z : plain b ≡ cond (eqb (place (plain b) g i) 0) (new_leaf (plain b) g (or_zero (present (plain b) g)) i p) (plain b) = sym (ap (λ y. cond y (new_leaf (plain b) g (or_zero (present (plain b) g)) i p) (plain b)) (ap (λ x. eqb x 0) (sym q) ∙ d)) in (
      record {
        after = b;
        found = table_page (word_at b.memory root i);
        is = refl;
        same = z;
        kept = kept_refl b;
        leaf = ap (λ (x : State). page_in (place x g i)) (sym z) ∙ ap page_in (sym q) ∙ sym (page_same (word_at b.memory root i) (F.good.1.root_form g _ root i r v) (small b g _ F.lawful en));
      },
      λ y. clash (ap (λ x. eqb x 0) q ∙ y) d,
    ))
    refl

-- the steps of a fill, at place i of the root and place j of the leaf
abbrev pub chain : Board → ℕ → ℕ → ℕ → ℕ → Picks → Reached (Unit {0})
chain b g i j word q =
    and_then (fills.rooted b g q.first) (λ c first.
    and_then (fills.roomy c g first i q.afresh) (λ d root.
    and_then (fills.leafed d g root i q.leaf) (λ e leaf.
    reached (board.with_memory e (written e.memory leaf j word)) tt)))

abbrev pub FairChain : Board → ℕ → ℕ → Picks → Type 0
FairChain b g i q =
    FairRoot b g q.first × Where (fills.rooted b g q.first) (λ c first.
    FairRoom c g first i q.afresh × Where (fills.roomy c g first i q.afresh) (λ d root.
    FairLeaf d g root i q.leaf))

abbrev pub plain_chain : World → Picks → State → ℕ → ℕ → ℕ → ℕ → State
plain_chain w q s g i j v =
    let t = leafed (roomy w (rooted w s g q.first) g i q.afresh) g i q.leaf in
    write t (page_in (place t g i)) j v

pub record FairPlain (w : World) (q : Picks) (s : State) (g i : ℕ) : Type 0 where
  pub first_free : present s g ≡ None → (cleared w s g (crowded w s g)).free g q.first ≡ true
  pub afresh_free : (eqb (place (rooted w s g q.first) g i) 0 && eqb (free_count w (rooted w s g q.first) g) 0) ≡ true → (drop w (rooted w s g q.first) g).free g q.afresh ≡ true
  pub leaf_free : eqb (place (roomy w (rooted w s g q.first) g i q.afresh) g i) 0 ≡ true → (roomy w (rooted w s g q.first) g i q.afresh).free g q.leaf ≡ true

pub record Filled (b : Board) (g i j v : ℕ) (q : Picks) : Type 0 where
  pub after : Board
  pub is : chain b g i j v q ≡ reached after tt
  pub same : plain after ≡ plain_chain (world b) q (plain b) g i j v
  pub kept : Kept b after
  pub fair : FairPlain (world b) q (plain b) g i

pub do_chain : (b : Board) (g i j v : ℕ) (q : Picks) → Fit b g → i < 1024 → j < 1024 → FairChain b g i q → Filled b g i j v q
unfolding HasLeaf
do_chain b g i j v q F li lj M =
    let D1 = do_rooted b g q.first F M.0 in
    let A = D1.0 in
    let c = A.after in
    let G1 = good_rooted (world b) F.lawful (plain b) g q.first F.good D1.1 in
    let F1 = fit_next b c g F A.kept (subst (Good (world b)) (sym A.same) G1.0) in
    let R1 : present (plain c) g ≡ Some A.found = subst (λ (x : State). present x g ≡ Some A.found) (sym A.same) A.root in
    let M1 = subst (λ (o : Reached ℕ). Where o (λ c first. FairRoom c g first i q.afresh × Where (fills.roomy c g first i q.afresh) (λ d root. FairLeaf d g root i q.leaf))) A.is M.1 in
    let D2 = do_roomy c g A.found i q.afresh F1 R1 M1.0 in
    let B = D2.0 in
    let d = B.after in
    let G2 = good_roomy (world c) F1.lawful (plain c) g i q.afresh F1.good (A.found, R1) D2.1 in
    let F2 = fit_next c d g F1 B.kept (subst (Good (world c)) (sym B.same) G2.0) in
    let R2 : present (plain d) g ≡ Some B.found = subst (λ (x : State). present x g ≡ Some B.found) (sym B.same) B.root in
    let M2 = subst (λ (o : Reached ℕ). Where o (λ d root. FairLeaf d g root i q.leaf)) B.is M1.1 in
    let n : place (plain d) g i ≡ 0 → ¬ (free_count (world d) (plain d) g ≡ 0) = λ z. count_there c d g (roomy (world c) (plain c) g i q.afresh) B.kept B.same (leaf_some (world c) F1.lawful g F1.two (plain c) i q.afresh F1.good D2.1 (ap (λ (x : State). place x g i) (sym B.same) ∙ z)) in
    let D3 = do_leafed d g B.found i q.leaf F2 li R2 n M2 in
    let E = D3.0 in
    let e = E.after in
    let G3 = good_leafed (world d) F2.lawful (plain d) g i q.leaf F2.good (B.found, R2) D3.1 in
    let F3 = fit_next d e g F2 E.kept (subst (Good (world d)) (sym E.same) (G3.0, G3.1)) in
    let en : enrolled (world d) g E.found ≡ true = subst (λ p. enrolled (world d) g p ≡ true) E.leaf (G3.1.used_leaf g G3.2.0 i _ G3.2.1).0 in
    let en3 : enrolled (world e) g E.found ≡ true = subst (λ (w : World). enrolled w g E.found ≡ true) (sym E.kept.same_world) en in
    let p1 : rooted (world b) (plain b) g q.first ≡ plain c = sym A.same in
    let p2 : roomy (world b) (rooted (world b) (plain b) g q.first) g i q.afresh ≡ plain d = ap₂ (λ (w : World) (x : State). roomy w x g i q.afresh) (sym A.kept.same_world) p1 ∙ sym B.same in
    let p3 : leafed (roomy (world b) (rooted (world b) (plain b) g q.first) g i q.afresh) g i q.leaf ≡ plain e = ap (λ (x : State). leafed x g i q.leaf) p2 ∙ sym E.same in
    record {
      after = board.with_memory e (written e.memory E.found j v);
      is = ap (λ (o : Reached ℕ). and_then o (λ c first. and_then (fills.roomy c g first i q.afresh) (λ d root. and_then (fills.leafed d g root i q.leaf) (λ e leaf. reached (board.with_memory e (written e.memory leaf j v)) tt)))) A.is
          ∙ ap (λ (o : Reached ℕ). and_then o (λ d root. and_then (fills.leafed d g root i q.leaf) (λ e leaf. reached (board.with_memory e (written e.memory leaf j v)) tt))) B.is
          ∙ ap (λ (o : Reached ℕ). and_then o (λ e leaf. reached (board.with_memory e (written e.memory leaf j v)) tt)) E.is;
      same = plain_write e E.found j v (there e g E.found j F3.lawful en3 lj)
          ∙ ap (λ p. write (plain e) p j v) (sym E.leaf ∙ ap (λ (x : State). page_in (place x g i)) (sym E.same))
          ∙ ap (λ (x : State). write x (page_in (place x g i)) j v) (sym p3);
      kept = kept_trans b c _ A.kept (kept_trans c d _ B.kept (kept_trans d e _ E.kept (kept_write e E.found j v)));
      fair = record {
        first_free = D1.1;
        afresh_free = λ z. ap₂ (λ (w : World) (x : State). (drop w x g).free g q.afresh) (sym A.kept.same_world) p1 ∙ D2.1 (ap₂ (λ (w : World) (x : State). eqb (place x g i) 0 && eqb (free_count w x g) 0) A.kept.same_world (sym p1) ∙ z);
        leaf_free = λ z. ap (λ (x : State). x.free g q.leaf) p2 ∙ D3.1 (ap (λ (x : State). eqb (place x g i) 0) (sym p2) ∙ z);
      };
    }
