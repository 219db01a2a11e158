-- A root and a leaf taken on a board, and a word written, are those of the plain board.
use Rattle.std.proofs.Common.{◌≡◌, ℕ, ◌<◌, Bool, true, false, cond, ◌&&◌, eqb, ltb, ◌∷◌, map, length, None, Ok, sym, refl, ap, ◌∙◌, arith, rules, ne_eqb, eqb-true}
use Rattle.std.proofs.lemmas.Bool.{lt-ltb}
use Rattle.platform.specs.Guests.{is_guest}
use Rattle.platform.specs.Keepers.{marked, take_refusal}
use Rattle.platform.specs.Keepers as keepers
use Rattle.platform.specs.Memories.{Mem, inside, written}
use Rattle.descriptor.specs.Shadow.{root_word}
use Rattle.model.specs.Boards.{Board, word_at, with_spaces, with_root}
use Rattle.model.specs.Boards as board
use Rattle.model.specs.Fills.{root_taken, take_root, none_free}
use Rattle.model.proofs.Plain.{at, put, free_count, leaf_mark, new_root, new_leaf, write, present, key_of, root_at}
use Rattle.model.proofs.Basics.{by_test}
use Rattle.model.proofs.Abstract.{plain_space, plain_guest, plain, world, state_path, key_there, root_same, word_written, has_written}
use Rattle.model.proofs.Dropping.{Tied, world_path, guest_changed, admitted_kept, tables_kept}

-- the present root
pub present_same : (b : Board) (g : ℕ) → present (plain b) g ≡ board.present_root b g
present_same b g = ap (λ k. root_at k (map plain_space (b.guest g).spaces)) (key_there (b.guest g)) ∙ root_same (board.key_of (b.guest g)) (b.guest g).spaces

-- a page is free exactly if the keeper gives one
pub none_same : (b : Board) (g : ℕ) → is_guest g ≡ true → none_free b g ≡ eqb (free_count (world b) (plain b) g) 0
none_same b g e = ap (λ t. cond t (eqb (keepers.free_count b.keeper g) 0) true) e

pub not_refused : (b : Board) (g : ℕ) → is_guest g ≡ true → ¬ (free_count (world b) (plain b) g ≡ 0) → take_refusal b.keeper g ≡ None
not_refused b g e n = search (rules, ne_eqb (free_count (world b) (plain b) g) 0 n)

-- all of it that no call changes
pub record Kept (b c : Board) : Type 0 where
  pub same_world : world c ≡ world b
  pub still_tied : Tied b → Tied c
  pub same_running : c.running ≡ b.running

pub kept_refl : (b : Board) → Kept b b
kept_refl b = record { same_world = refl; still_tied = λ t. t; same_running = refl }

pub kept_trans : (b c d : Board) → Kept b c → Kept c d → Kept b d
kept_trans b c d x y = record { same_world = y.same_world ∙ x.same_world; still_tied = λ t. y.still_tied (x.still_tied t); same_running = y.same_running ∙ x.same_running }

-- a guest's record changed
pub kept_guest : (b : Board) (g : ℕ) (x : board.Guest) → x.admitted ≡ (b.guest g).admitted → x.tables ≡ (b.guest g).tables → Kept b (board.with_guest b g x)
kept_guest b g x a t = record {
  same_world = world_path (world (board.with_guest b g x)) (world b) (λ p. refl) (λ h p. refl) (λ p. refl) (λ h. refl) refl (λ h. admitted_kept b g h x a);
  still_tied = λ d h. tables_kept b g h x t ∙ d h;
  same_running = refl;
}

pub kept_memory : (b : Board) (m : Mem) → ((p : ℕ) → m.has p ≡ b.memory.has p) → Kept b (board.with_memory b m)
kept_memory b m e = record {
  same_world = world_path (world (board.with_memory b m)) (world b) e (λ h p. refl) (λ p. refl) (λ h. refl) refl (λ h. refl);
  still_tied = λ d. d;
  same_running = refl;
}

pub kept_marked : (b : Board) (g p : ℕ) (t : Bool) → Kept b (board.with_keeper b (marked b.keeper g p t))
kept_marked b g p t = record { same_world = refl; still_tied = λ d. d; same_running = refl }

-- a root taken
abbrev rooted_board : Board → ℕ → ℕ → Board
rooted_board b g p = board.with_guest (board.with_keeper b (marked b.keeper g p false)) g (with_root (b.guest g) p)

pub root_found : (b : Board) (g p : ℕ) → take_refusal b.keeper g ≡ None → take_root b g p ≡ record { after = rooted_board b g p; found = Ok p }
unfolding take_root
root_found b g p e = ap (root_taken b g p) e

free_marked : (f : ℕ → ℕ → Bool) (g p h q : ℕ) → cond (eqb h g && eqb q p) false (f h q) ≡ at f g (at (f g) p false) h q
free_marked f g p h q = by_test (λ t. eqb h g ≡ t → cond (t && eqb q p) false (f h q) ≡ cond t (at (f g) p false) (f h) q) (eqb h g)
    (λ t d. ap (λ y. cond (eqb q p) false (f y q)) (eqb-true h g d))
    (λ t d. refl)
    refl

root_guest : (x : board.Guest) (p : ℕ) → length x.spaces < 4 → plain_guest (with_root x p) ≡ record { regs = (plain_guest x).regs; spaces = record { key = key_of (plain_guest x).regs; root = p } ∷ (plain_guest x).spaces }
root_guest x p l =
    ap (λ t. plain_guest (cond t (with_spaces x (record { key = board.key_of x; root = p } ∷ x.spaces)) x)) (lt-ltb (length x.spaces) 4 l)
    ∙ ap (λ k. record { regs = (plain_guest x).regs; spaces = record { key = k; root = p } ∷ (plain_guest x).spaces }) (sym (key_there x))

pub plain_root : (b : Board) (g p : ℕ) → length (b.guest g).spaces < 4 → plain (rooted_board b g p) ≡ new_root (plain b) g p
unfolding new_root
plain_root b g p l = state_path (plain (rooted_board b g p)) (new_root (plain b) g p)
    (λ q j. refl)
    (λ h q. free_marked b.keeper.free g p h q)
    (λ h. guest_changed b g h (with_root (b.guest g) p) ∙ ap (λ y. at (λ i. plain_guest (b.guest i)) g y h) (root_guest (b.guest g) p l))
    refl

root_admitted : (x : board.Guest) (p : ℕ) → (with_root x p).admitted ≡ x.admitted
root_admitted x p = by_test (λ t. (cond t (with_spaces x (record { key = board.key_of x; root = p } ∷ x.spaces)) x).admitted ≡ x.admitted) (ltb (length x.spaces) 4) (λ e. refl) (λ e. refl)

root_tables : (x : board.Guest) (p : ℕ) → (with_root x p).tables ≡ x.tables
root_tables x p = by_test (λ t. (cond t (with_spaces x (record { key = board.key_of x; root = p } ∷ x.spaces)) x).tables ≡ x.tables) (ltb (length x.spaces) 4) (λ e. refl) (λ e. refl)

pub kept_root : (b : Board) (g p : ℕ) → Kept b (rooted_board b g p)
kept_root b g p = kept_trans b (board.with_keeper b (marked b.keeper g p false)) (rooted_board b g p) (kept_marked b g p false)
    (kept_guest (board.with_keeper b (marked b.keeper g p false)) g (with_root (b.guest g) p) (root_admitted (b.guest g) p) (root_tables (b.guest g) p))

-- a leaf taken
abbrev leafed_board : Board → ℕ → ℕ → ℕ → ℕ → Board
leafed_board b g root i p = board.with_keeper (board.with_memory b (written b.memory root i (root_word p))) (marked b.keeper g p false)

pub mark_same : (p : ℕ) → p < 1048576 → root_word p ≡ leaf_mark p
mark_same p h = omega arith

pub plain_leaf : (b : Board) (g root i p : ℕ) → inside b.memory root i ≡ true → p < 1048576 → plain (leafed_board b g root i p) ≡ new_leaf (plain b) g root i p
unfolding new_leaf
plain_leaf b g root i p e h = state_path (plain (leafed_board b g root i p)) (new_leaf (plain b) g root i p)
    (λ q j. word_written b.memory root i (root_word p) q j e ∙ ap (λ v. put (word_at b.memory) root i v q j) (mark_same p h))
    (λ h q. free_marked b.keeper.free g p h q)
    (λ h. refl)
    refl

pub kept_leaf : (b : Board) (g root i p : ℕ) → Kept b (leafed_board b g root i p)
kept_leaf b g root i p = kept_trans b (board.with_memory b (written b.memory root i (root_word p))) (leafed_board b g root i p)
    (kept_memory b (written b.memory root i (root_word p)) (λ q. has_written b.memory root i (root_word p) q))
    (kept_marked (board.with_memory b (written b.memory root i (root_word p))) g p false)

-- a word written
pub plain_write : (b : Board) (p k v : ℕ) → inside b.memory p k ≡ true → plain (board.with_memory b (written b.memory p k v)) ≡ write (plain b) p k v
unfolding write
plain_write b p k v e = state_path (plain (board.with_memory b (written b.memory p k v))) (write (plain b) p k v) (λ q j. word_written b.memory p k v q j e) (λ h q. refl) (λ h. refl) refl

pub kept_write : (b : Board) (p k v : ℕ) → Kept b (board.with_memory b (written b.memory p k v))
kept_write b p k v = kept_memory b (written b.memory p k v) (λ q. has_written b.memory p k v q)
