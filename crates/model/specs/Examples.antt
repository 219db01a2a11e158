-- A worked shift.
use Rattle.std.specs.Prelude.{◌≡◌, ℕ, cond, ◌&&◌, ◌||◌, List, [], ◌∷◌, Some, None, ◌==◌, nat_lt, Ok}
use Rattle.platform.specs.declared.access.Access.{Access}
use Rattle.platform.specs.declared.right.Right.{Right}
use Rattle.platform.specs.declared.right.Right.TheVariants.{Nothing}
use Rattle.platform.specs.Books.{Book}
use Rattle.platform.specs.Lists.{member}
use Rattle.platform.specs.Memories.{Mem}
use Rattle.walk.specs.declared.abort.Abort.TheVariants.{External}
use Rattle.model.specs.declared.calls.Reply.{Reply}
use Rattle.model.specs.Answers.{Answer}
use Rattle.model.specs.declared.calls.Reply.TheVariants.{Done, Mapped, Aborted, Loaded}
use Rattle.model.specs.declared.calls.Call.{Call}
use Rattle.model.specs.declared.calls.Call.TheVariants.{Schedule, PagingOn, Fault, Load, Store}
use Rattle.model.specs.Boards.{Board}
use Rattle.model.specs.Fills.{Picks}
use Rattle.model.specs.Steps.{Fair, step}
use Rattle.model.specs.Starts.{Started, new_guest}

-- pages 0 to 9 are there; guest 1's first-level table is in page 0, with a section at place 5 that begins at page 0
abbrev pub words : Mem
words = record { has = λ p. nat_lt p 10; word = λ p k. cond (p == 0 && k == 5) 0x00000C02 0 }

-- guest 1 may write pages 0 to 3 and read page 4, which guest 2 may write; pages 8 and 9 are guest 1's pool, 6 and 7 guest 2's
abbrev pub rights : Book
rights = record {
  right = λ g p. cond (g == 1) (cond (nat_lt p 4) Right.Write (cond (p == 4) Right.Read Nothing)) (cond (g == 2 && p == 4) Right.Write Nothing);
  pool = λ p. cond (p == 8 || p == 9) (Some 1) (cond (p == 6 || p == 7) (Some 2) None);
}

abbrev pub tables : ℕ → List ℕ
tables g = cond (g == 1) (8 ∷ 9 ∷ []) (cond (g == 2) (6 ∷ 7 ∷ []) [])

abbrev pub worked_start : Board
worked_start = record {
  window = record { first = 0; count = 12 };
  memory = words;
  book = rights;
  keeper = record { pages = tables; free = λ g p. member p (tables g) };
  guest = λ g. new_guest (g == 1 || g == 2) (tables g);
  running = None;
}

-- guest 1 faults for writing at an address in its section, stores and loads there, and faults for writing at an address whose
-- page it may only read
abbrev pub worked_calls : List Call
worked_calls = Schedule 1 ∷ PagingOn ∷ Fault 0x00502000 Access.Write ∷ Store 0x00502000 0x600DF00D ∷ Load 0x00502000 ∷ Fault 0x00504000 Access.Write ∷ Call.Status ∷ []

-- a write adds 0x800 to the code 0x08
abbrev pub worked_answers : List Answer
worked_answers = Ok Done ∷ Ok Done ∷ Ok (Mapped (record { page = 2; right = Right.Write })) ∷ Ok Done ∷ Ok (Loaded 0x600DF00D) ∷ Ok (Aborted External) ∷ Ok (Reply.Status 0x808 0x00504000) ∷ []

-- calls made one after another, with the same pages offered in each
abbrev pub play : Picks → Board → List Call → List Answer
play q b [] = []
play q b (c ∷ cs) = (step b c q).answer ∷ play q (step b c q).after cs

-- where the pages offered may be what the keeper gives
abbrev pub FairPlay : Picks → Board → List Call → Type 0
FairPlay q b [] = Unit {0}
FairPlay q b (c ∷ cs) = Fair b c q × FairPlay q (step b c q).after cs

-- a root from one page and a leaf from the other
abbrev pub one_way : Picks
one_way = record { first = 8; afresh = 0; leaf = 9 }

abbrev pub other_way : Picks
other_way = record { first = 9; afresh = 0; leaf = 8 }

-- the board is one right after start, and the answers are these whichever page is the root
pub record WorkedShift : Type 0 where
  pub starts : Started worked_start
  pub one_fair : FairPlay one_way worked_start worked_calls
  pub one_played : play one_way worked_start worked_calls ≡ worked_answers
  pub other_fair : FairPlay other_way worked_start worked_calls
  pub other_played : play other_way worked_start worked_calls ≡ worked_answers
