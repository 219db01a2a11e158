-- Shifts, and what is promised of each.
use Rattle.std.specs.Prelude.{◌≡◌, ℕ, ◌<◌, ◌≤◌, Bool, true, false, cond, not, ◌&&◌, List, [], ◌∷◌, length, is_some, Some, None, Option, ◌≢◌, nat_le}
use Rattle.platform.specs.declared.right.Right.{Right}
use Rattle.platform.specs.Rights.{rank}
use Rattle.descriptor.specs.declared.entry.SecondLevel.{SecondLevel}
use Rattle.descriptor.specs.Entries.{table_page, second_level}
use Rattle.model.specs.Answers.{Answer}
use Rattle.model.specs.declared.calls.Call.{Call}
use Rattle.model.specs.Boards.{Board, root_at, word_at}
use Rattle.model.specs.Steps.{Steps}
use Rattle.model.specs.Starts.{Started, enrolled}
use Rattle.model.specs.Histories.{Event, History, or_else, scheduled, runs, is_one, stored, last_store}

-- a board comes from a start by calls with their answers, for any list of calls and any choice of free pages
pub data Shift (start : Board) : History → Board → Type 0 where
  begun : Shift start [] start
  called : {h : History} {b : Board} (c : Call) (a : Answer) (after : Board) → Shift start h b → Steps b c a after → Shift start (record { call = c; answer = a } ∷ h) after

-- a word of a leaf, read as a second-level word, maps a page in no pool, on which the book gives guest g at least the mapping's right
pub record WithinRights (b : Board) (g word : ℕ) : Type 0 where
  pub page : ℕ
  pub right : Right
  pub reads : (va : ℕ) → second_level word va ≡ SecondLevel.SmallPage page right
  pub in_no_pool : b.book.pool page ≡ None
  pub by_book : rank right ≤ rank (b.book.right g page)

-- every mapping under a recorded root stays within rights and off the pools: a root is recorded while a space has it,
-- a leaf is named by a word other than 0 of a root, and a mapping is a word other than 0 of a leaf
abbrev pub MappingsStayWithinRights : Type 0
MappingsStayWithinRights =
    (start : Board) → Started start → (h : History) (b : Board) → Shift start h b
    → (g : ℕ) (key : Option ℕ) (root i j : ℕ) → root_at key (b.guest g).spaces ≡ Some root
    → (word_at b.memory root i ≢ 0)
    → (word_at b.memory (table_page (word_at b.memory root i)) j ≢ 0)
    → WithinRights b g (word_at b.memory (table_page (word_at b.memory root i)) j)

-- a word is the last stored, by a guest with write on the page; else its starting word
abbrev pub IsLastStored : Board → ℕ → ℕ → Option (ℕ × ℕ) → ℕ → Type 0
IsLastStored start p k None word = word ≡ start.memory.word p k
IsLastStored start p k (Some s) word = (word ≡ s.1) × (start.book.right s.0 p ≡ Right.Write)

-- every word outside enrolled pages
abbrev pub WordsAreLastStored : Type 0
WordsAreLastStored =
    (start : Board) → Started start → (h : History) (b : Board) → Shift start h b
    → (p k : ℕ) → start.memory.has p ≡ true → k < 1024 → ((g : ℕ) → enrolled start g p ≡ false)
    → IsLastStored start p k (last_store h p k) (b.memory.word p k)

-- a call of guest i: all but schedule, made while i runs
abbrev pub is_call_of : ℕ → History → Event → Bool
is_call_of i h e = is_one (runs h) i && not (is_some (scheduled e.call))

abbrev pub word_in : Option (ℕ × ℕ) → Option ℕ
word_in None = None
word_in (Some s) = Some s.1

-- the last word that others put at a place that i may read, since i's last call or start
abbrev pub news : Board → ℕ → History → ℕ → ℕ → Option ℕ
news start i [] p k = None
news start i (e ∷ h) p k =
    cond (is_call_of i h e) None
    (cond (nat_le 1 (rank (start.book.right i p))) (or_else (word_in (stored h e p k)) (news start i h p k)) None)

-- a call of i, with what others had stored before it
pub record Turn : Type 0 where
  pub call : Call
  pub others : ℕ → ℕ → Option ℕ

-- i's calls, the newest first
abbrev pub turns : Board → ℕ → History → List Turn
turns start i [] = []
turns start i (e ∷ h) = cond (is_call_of i h e) (record { call = e.call; others = news start i h } ∷ turns start i h) (turns start i h)

-- the answers to them
abbrev pub answers_to : ℕ → History → List Answer
answers_to i [] = []
answers_to i (e ∷ h) = cond (is_call_of i h e) (e.answer ∷ answers_to i h) (answers_to i h)

-- two shifts agree in guest i's view
pub record SameView (i : ℕ) (start : Board) (h : History) (start' : Board) (h' : History) : Type 0 where
  pub window : start.window ≡ start'.window
  pub present : (p : ℕ) → p < start.window.count → start.memory.has p ≡ start'.memory.has p
  pub rights : (p : ℕ) → start.book.right i p ≡ start'.book.right i p
  pub enrolled_count : length (start.keeper.pages i) ≡ length (start'.keeper.pages i)
  pub words : (p k : ℕ) → 1 ≤ rank (start.book.right i p) → word_at start.memory p k ≡ word_at start'.memory p k
  pub calls : turns start i h ≡ turns start' i h'

abbrev pub AnswersDependOnOwnView : Type 0
AnswersDependOnOwnView =
    (i : ℕ) (start : Board) (h : History) (b : Board) (start' : Board) (h' : History) (b' : Board)
    → Started start → Shift start h b → Started start' → Shift start' h' b'
    → SameView i start h start' h' → answers_to i h ≡ answers_to i h'
