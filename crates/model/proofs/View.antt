-- What a guest alone would do: its own view of the board, with no table page in it.
use Rattle.std.proofs.Common.{ℕ, suc, ◌-◌, ◌/◌, ◌%◌, Bool, true, false, cond, not, ◌&&◌, ◌||◌, eqb, ltb, leb, List, [], ◌∷◌, length, is_some, Some, None, Ok, Err, Option, Result}
use Rattle.platform.specs.declared.access.Access.{Access}
use Rattle.platform.specs.declared.refusal.Refusal.TheVariants.{NoGuestRuns, Misaligned, NotMapped}
use Rattle.platform.specs.declared.right.Right.{Right}
use Rattle.platform.specs.Rights.{rank}
use Rattle.platform.specs.Windows.{Pane}
use Rattle.walk.specs.declared.abort.Abort.{Abort}
use Rattle.walk.specs.declared.mapping.Mapping.{Mapping}
use Rattle.walk.specs.Sights.{Sight, sight}
use Rattle.walk.specs.Walks.{walk_answer}
use Rattle.model.specs.declared.calls.Reply.{Reply}
use Rattle.model.specs.Answers.{Answer}
use Rattle.model.specs.declared.calls.Reply.TheVariants.{Done, Mapped, Aborted, Loaded}
use Rattle.model.specs.declared.calls.Call.{Call}
use Rattle.model.specs.declared.calls.Call.TheVariants.{Schedule, Switch, PagingOn, PagingOff, Flush, FlushPage, Fault, Load, Store}
use Rattle.model.specs.Shifts.{Turn}
use Rattle.model.proofs.Plain.{World, State, Regs, key_of, paging_in, failed, switched, paged, at, put, root_at, mapping_at, free_count, map_word, page_in, right_in, is_write}

pub record Given : Type 0 where
  pub has : ℕ → Bool
  pub right : ℕ → Right
  pub total : ℕ
  pub window : Pane

pub record Alone : Type 0 where
  pub regs : Regs
  pub rooted : ℕ → Bool
  pub leaf : ℕ → ℕ → Bool
  pub map : ℕ → ℕ → ℕ → ℕ
  pub number : ℕ
  pub free : ℕ
  pub words : ℕ → ℕ → ℕ

abbrev pub given_of : World → ℕ → Given
given_of w i = record { has = λ p. cond (ltb p w.window.count) (w.has p) false; right = w.right i; total = length (w.pages i); window = w.window }

abbrev pub leaf_at : State → Option ℕ → ℕ → Bool
leaf_at s None n = false
leaf_at s (Some r) n = not (eqb (s.word r n) 0)

-- the board as guest i has it
abbrev pub alone : World → ℕ → State → Alone
alone w i s = record {
  regs = (s.guest i).regs;
  rooted = λ k. is_some (root_at k (s.guest i).spaces);
  leaf = λ k n. leaf_at s (root_at k (s.guest i).spaces) n;
  map = λ k n j. mapping_at s (root_at k (s.guest i).spaces) n j;
  number = length (s.guest i).spaces;
  free = free_count w s i;
  words = λ p k. cond (leb 1 (rank (w.right i p))) (s.word p k) 0;
}

abbrev pub own_drop : Given → Alone → Alone
own_drop G a = record { regs = a.regs; rooted = λ k. false; leaf = λ k n. false; map = λ k n j. 0; number = 0; free = G.total; words = a.words }

abbrev pub own_root : Alone → Alone
own_root a = record { regs = a.regs; rooted = at a.rooted (key_of a.regs) true; leaf = at a.leaf (key_of a.regs) (λ n. false); map = at a.map (key_of a.regs) (λ n j. 0); number = suc a.number; free = a.free - 1; words = a.words }

abbrev pub own_leaf : Alone → ℕ → Alone
own_leaf a n = record { regs = a.regs; rooted = a.rooted; leaf = at a.leaf (key_of a.regs) (at (a.leaf (key_of a.regs)) n true); map = a.map; number = a.number; free = a.free - 1; words = a.words }

abbrev pub own_map : Alone → ℕ → ℕ → ℕ → Alone
own_map a n j v = record { regs = a.regs; rooted = a.rooted; leaf = a.leaf; map = at a.map (key_of a.regs) (put (a.map (key_of a.regs)) n j v); number = a.number; free = a.free; words = a.words }

abbrev pub own_wipe : Alone → ℕ → ℕ → Alone
own_wipe a n j = record { regs = a.regs; rooted = a.rooted; leaf = a.leaf; map = λ k m l. cond (eqb m n && eqb l j) 0 (a.map k m l); number = a.number; free = a.free; words = a.words }

abbrev pub own_rooted : Given → Alone → Alone
own_rooted G a = cond (a.rooted (key_of a.regs)) a (own_root (cond (leb 4 a.number || eqb a.free 0) (own_drop G a) a))

abbrev pub own_roomy : Given → Alone → ℕ → Alone
own_roomy G a n = cond (not (a.leaf (key_of a.regs) n) && eqb a.free 0) (own_root (own_drop G a)) a

abbrev pub own_leafed : Alone → ℕ → Alone
own_leafed a n = cond (not (a.leaf (key_of a.regs) n)) (own_leaf a n) a

unfoldable pub own_filled : Given → Alone → ℕ → ℕ → Alone
own_filled G a va v = own_map (own_leafed (own_roomy G (own_rooted G a) (va / 1048576)) (va / 1048576)) (va / 1048576) (va / 4096 % 256) v

abbrev pub own_sight : Given → Alone → Sight
own_sight G a = sight (record { has = G.has; word = a.words }) G.right G.window

abbrev pub own_regs : Alone → Regs → Alone
own_regs a r = record { regs = r; rooted = a.rooted; leaf = a.leaf; map = a.map; number = a.number; free = a.free; words = a.words }

abbrev pub own_walked : Given → Alone → ℕ → Access → Result Mapping Abort
own_walked G a va x = walk_answer (own_sight G a) (paging_in (key_of a.regs)) va x

abbrev pub own_fault_by : Given → Alone → ℕ → Access → Result Mapping Abort → Alone × Answer
own_fault_by G a va x (Err e) = (own_regs a (failed a.regs e va x), Ok (Aborted e))
own_fault_by G a va x (Ok m) = (own_filled G a va (map_word m.page m.right), Ok (Mapped m))

abbrev pub own_write : Given → Alone → ℕ → ℕ → ℕ → Alone
own_write G a p k x = record { regs = a.regs; rooted = a.rooted; leaf = a.leaf; map = a.map; number = a.number; free = a.free; words = λ q j. cond (leb 1 (rank (G.right q))) (put a.words p k x q j) 0 }

abbrev pub own_shadow : Alone → ℕ → ℕ
own_shadow a va = a.map (key_of a.regs) (va / 1048576) (va / 4096 % 256)

abbrev pub own_step : Given → Alone → Call → Alone × Answer
own_step G a (Schedule h) = (a, Err NoGuestRuns)
own_step G a (Switch b) = (own_regs a (switched a.regs b), Ok Done)
own_step G a PagingOn = (own_regs a (paged a.regs true), Ok Done)
own_step G a PagingOff = (own_regs a (paged a.regs false), Ok Done)
own_step G a Call.Status = (a, Ok (Reply.Status a.regs.code a.regs.address))
own_step G a Flush = (own_drop G a, Ok Done)
own_step G a (FlushPage va) = (own_wipe a (va / 1048576) (va / 4096 % 256), Ok Done)
own_step G a (Fault va x) = own_fault_by G a va x (own_walked G a va x)
own_step G a (Load va) = cond (eqb (va % 4) 0) (cond (eqb (own_shadow a va) 0) (a, Err NotMapped) (a, Ok (Loaded (a.words (page_in (own_shadow a va)) (va / 4 % 1024))))) (a, Err Misaligned)
own_step G a (Store va x) = cond (eqb (va % 4) 0) (cond (is_write (right_in (own_shadow a va)) && not (eqb (own_shadow a va) 0)) (own_write G a (page_in (own_shadow a va)) (va / 4 % 1024) x, Ok Done) (a, Err NotMapped)) (a, Err Misaligned)

abbrev pub or_word : Option ℕ → ℕ → ℕ
or_word None x = x
or_word (Some y) x = y

-- what others stored
abbrev pub own_news : Given → Alone → (ℕ → ℕ → Option ℕ) → Alone
own_news G a u = record { regs = a.regs; rooted = a.rooted; leaf = a.leaf; map = a.map; number = a.number; free = a.free; words = λ p k. cond (leb 1 (rank (G.right p))) (or_word (u p k) (a.words p k)) 0 }

-- its turns, the last first
unfoldable pub own_run : Given → Alone → List Turn → Alone × List Answer
own_run G a [] = (a, [])
own_run G a (t ∷ l) = let b = own_run G a l in let r = own_step G (own_news G b.0 t.others) t.call in (r.0, r.1 ∷ b.1)
