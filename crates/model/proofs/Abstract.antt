-- A board as a plain board: its words, its free pages, its guests and who runs, with keys as numbers.
use Rattle.std.proofs.Common.{◌≡◌, ℕ, suc, Bool, true, false, cond, not, ◌&&◌, ◌||◌, eqb, List, [], ◌∷◌, map, length, is_ok, Some, None, Option, sym, refl, ap, ◌∙◌, subst, ap₂, arith, rules, eqb-true}
use Rattle.std.proofs.lemmas.Bool.Decides.{nat_tests}
use Rattle.platform.specs.Keepers.{Keep, marked, give_answer}
use Rattle.platform.specs.Lists.{member}
use Rattle.platform.specs.Memories.{Mem, inside, written, cleared}
use Rattle.model.specs.Boards.{Board, word_at, same_key}
use Rattle.model.specs.Boards as board
use Rattle.model.specs.Fills.{drop_pages}
use Rattle.model.proofs.Plain.{Space, Regs, Guest, World, State, key_of, root_at, put}
use Rattle.model.proofs.Basics.{by_test}

abbrev pub key_number : Option ℕ → ℕ
key_number None = 0
key_number (Some b) = suc b

abbrev pub plain_space : board.Space → Space
plain_space x = record { key = key_number x.key; root = x.root }

abbrev pub plain_regs : board.Guest → Regs
plain_regs x = record { paging = x.paging; base = x.base; code = x.code; address = x.address }

abbrev pub plain_guest : board.Guest → Guest
plain_guest x = record { regs = plain_regs x; spaces = map plain_space x.spaces }

abbrev pub who : Option ℕ → ℕ
who None = 0
who (Some g) = g

abbrev pub plain : Board → State
plain b = record { word = word_at b.memory; free = b.keeper.free; guest = λ g. plain_guest (b.guest g); running = who b.running }

abbrev pub world : Board → World
world b = record { has = b.memory.has; right = b.book.right; pool = b.book.pool; pages = b.keeper.pages; window = b.window; admitted = λ g. (b.guest g).admitted }

pub state_path : (s t : State) → ((p k : ℕ) → s.word p k ≡ t.word p k) → ((g p : ℕ) → s.free g p ≡ t.free g p) → ((g : ℕ) → s.guest g ≡ t.guest g) → s.running ≡ t.running → s ≡ t
state_path s t a b c d = λ i. record { word = λ p k. a p k i; free = λ g p. b g p i; guest = λ g. c g i; running = d i }

-- keys as numbers
pub key_same : (a b : Option ℕ) → eqb (key_number a) (key_number b) ≡ same_key a b
key_same None None = refl
key_same None (Some b) = grind arith
key_same (Some a) None = grind arith
key_same (Some a) (Some b) = grind (arith, nat_tests)

pub key_there : (x : board.Guest) → key_of (plain_regs x) ≡ key_number (board.key_of x)
key_there x = by_test (λ b. cond b (suc x.base) 0 ≡ key_number (cond b (Some x.base) None)) x.paging (λ e. refl) (λ e. refl)

pub root_same : (k : Option ℕ) (l : List board.Space) → root_at (key_number k) (map plain_space l) ≡ board.root_at k l
root_same k [] = refl
root_same k (x ∷ l) = ap₂ (λ (b : Bool) (o : Option ℕ). cond b (Some x.root) o) (key_same k x.key) (root_same k l)

pub length_same : (l : List board.Space) → length (map plain_space l) ≡ length l
length_same [] = refl
length_same (x ∷ l) = ap suc (length_same l)

-- words
pub word_written : (m : Mem) (p k v q j : ℕ) → inside m p k ≡ true → word_at (written m p k v) q j ≡ put (word_at m) p k v q j
word_written m p k v q j e = search rules

pub word_cleared : (m : Mem) (p q j : ℕ) → word_at (cleared m p) q j ≡ cond (eqb q p) 0 (word_at m q j)
word_cleared m p q j = search rules

pub has_written : (m : Mem) (p k v q : ℕ) → (written m p k v).has q ≡ m.has q
has_written m p k v q = search rules

pub has_cleared : (m : Mem) (p q : ℕ) → (cleared m p).has q ≡ m.has q
has_cleared m p q = search rules

-- a drop: each page of the list that is in use is cleared and freed
abbrev in_use : Keep → ℕ → ℕ → Bool
in_use k g p = is_ok (give_answer k g p)

use_after : (k : Keep) (g p q : ℕ) → in_use k g p ≡ true → in_use (marked k g p true) g q ≡ (in_use k g q && not (eqb q p))
use_after k g p q e = search rules

-- what a drop changes, page by page
pub record Drops (b c : Board) (g : ℕ) (ps : List ℕ) : Type 0 where
  pub words : (q j : ℕ) → word_at c.memory q j ≡ cond (member q ps && in_use b.keeper g q) 0 (word_at b.memory q j)
  pub frees : (h q : ℕ) → c.keeper.free h q ≡ cond (eqb h g && (member q ps && in_use b.keeper g q)) true (b.keeper.free h q)
  pub same_has : (q : ℕ) → c.memory.has q ≡ b.memory.has q
  pub same_pages : c.keeper.pages ≡ b.keeper.pages
  pub same_guest : c.guest ≡ b.guest
  pub same_running : c.running ≡ b.running
  pub same_window : c.window ≡ b.window
  pub same_book : c.book ≡ b.book

drops_none : (b : Board) (g : ℕ) → Drops b b g []
drops_none b g = record {
  words = λ q j. refl;
  frees = λ h q. by_test (λ t. b.keeper.free h q ≡ cond (t && false) true (b.keeper.free h q)) (eqb h g) (λ e. refl) (λ e. refl);
  same_has = λ q. refl;
  same_pages = refl;
  same_guest = refl;
  same_running = refl;
  same_window = refl;
  same_book = refl;
}

-- tests only
then_word : (m u v e : Bool) (x : ℕ) → (e ≡ true → u ≡ true) → cond (m && (u && not e)) 0 (cond e 0 x) ≡ cond ((e || m) && u) 0 x
then_word m u v e x h = search rules

then_free : (t m u e x : Bool) → (e ≡ true → u ≡ true) → cond (t && (m && (u && not e))) true (cond (t && e) true x) ≡ cond (t && ((e || m) && u)) true x
then_free t m u e x h = search rules

else_use : (m u e : Bool) → (e ≡ true → u ≡ false) → ((e || m) && u) ≡ (m && u)
else_use m u e h = search rules

eqb_sym : (p q : ℕ) → eqb p q ≡ eqb q p
eqb_sym p q = grind (arith, nat_tests)

pub drop_all : (b : Board) (g : ℕ) (ps : List ℕ) → Drops b (drop_pages b g ps) g ps
drop_all b g [] = drops_none b g
drop_all b g (p ∷ ps) = by_test (λ t. in_use b.keeper g p ≡ t → Drops b (drop_pages (cond t (used b g p) b) g ps) g (p ∷ ps)) (in_use b.keeper g p)
    (λ e c.
    let R = drop_all (used b g p) g ps in
    record {
      words = λ q j. R.words q j
          ∙ ap₂ (λ u x. cond (member q ps && u) 0 x) (use_after b.keeper g p q c) (word_cleared b.memory p q j)
          ∙ then_word (member q ps) (in_use b.keeper g q) true (eqb q p) (word_at b.memory q j) (λ d. subst (λ x. in_use b.keeper g x ≡ true) (sym (eqb-true q p d)) c)
          ∙ ap (λ x. cond ((x || member q ps) && in_use b.keeper g q) 0 (word_at b.memory q j)) (eqb_sym q p);
      frees = λ h q. R.frees h q
          ∙ ap (λ u. cond (eqb h g && (member q ps && u)) true (cond (eqb h g && eqb q p) true (b.keeper.free h q))) (use_after b.keeper g p q c)
          ∙ then_free (eqb h g) (member q ps) (in_use b.keeper g q) (eqb q p) (b.keeper.free h q) (λ d. subst (λ x. in_use b.keeper g x ≡ true) (sym (eqb-true q p d)) c)
          ∙ ap (λ x. cond (eqb h g && ((x || member q ps) && in_use b.keeper g q)) true (b.keeper.free h q)) (eqb_sym q p);
      same_has = λ q. R.same_has q ∙ has_cleared b.memory p q;
      same_pages = R.same_pages;
      same_guest = R.same_guest;
      same_running = R.same_running;
      same_window = R.same_window;
      same_book = R.same_book;
    })
    (λ e c.
    let R = drop_all b g ps in
    let no : (q : ℕ) → ((eqb p q || member q ps) && in_use b.keeper g q) ≡ (member q ps && in_use b.keeper g q) = λ q. else_use (member q ps) (in_use b.keeper g q) (eqb p q) (λ d. subst (λ x. in_use b.keeper g x ≡ false) (eqb-true p q d) c) in
    record {
      words = λ q j. R.words q j ∙ ap (λ u. cond u 0 (word_at b.memory q j)) (sym (no q));
      frees = λ h q. R.frees h q ∙ ap (λ u. cond (eqb h g && u) true (b.keeper.free h q)) (sym (no q));
      same_has = R.same_has;
      same_pages = R.same_pages;
      same_guest = R.same_guest;
      same_running = R.same_running;
      same_window = R.same_window;
      same_book = R.same_book;
    })
    refl
  where
    used : Board → ℕ → ℕ → Board
    used b g p = board.with_keeper (board.with_memory b (cleared b.memory p)) (marked b.keeper g p true)
