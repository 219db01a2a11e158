-- The board on plain functions and numbers, on which the promises are proved: no guard that never fails is in it,
-- and a key is a number. `Stepping` and `Coming` show that a board that comes from a start does what this one does.
use Rattle.std.proofs.Common.{ℕ, zero, suc, ◌+◌, ◌*◌, ◌/◌, ◌%◌, Bool, true, false, cond, not, ◌&&◌, ◌||◌, eqb, leb, List, [], ◌∷◌, length, Some, None, Ok, Err, Option, Result}
use Rattle.platform.specs.declared.access.Access.{Access}
use Rattle.platform.specs.declared.refusal.Refusal.TheVariants.{GuestOutOfRange, NotAdmitted, NoGuestRuns, Misaligned, NotMapped}
use Rattle.platform.specs.declared.right.Right.{Right}
use Rattle.platform.specs.declared.right.Right.TheVariants.{Nothing, Read, Write}
use Rattle.platform.specs.Guests.{is_guest}
use Rattle.platform.specs.Lists.{count, member}
use Rattle.platform.specs.Windows.{Pane}
use Rattle.descriptor.specs.Shadow.{attributes}
use Rattle.walk.specs.declared.abort.Abort.{Abort}
use Rattle.walk.specs.declared.mapping.Mapping.{Mapping}
use Rattle.walk.specs.Sights.{Sight, sight}
use Rattle.walk.specs.Walks.{walk_answer}
use Rattle.model.specs.declared.calls.Reply.{Reply}
use Rattle.model.specs.Answers.{Answer}
use Rattle.model.specs.declared.calls.Reply.TheVariants.{Done, Mapped, Aborted, Loaded}
use Rattle.model.specs.declared.calls.Call.{Call}
use Rattle.model.specs.declared.calls.Call.TheVariants.{Schedule, Switch, PagingOn, PagingOff, Flush, FlushPage, Fault, Load, Store}
use Rattle.model.specs.Fills.{Picks}
use Rattle.model.specs.Steps.{status_code}

pub record Space : Type 0 where
  pub key : ℕ
  pub root : ℕ

-- a guest's paging state, base page and fault status
pub record Regs : Type 0 where
  pub paging : Bool
  pub base : ℕ
  pub code : ℕ
  pub address : ℕ

pub record Guest : Type 0 where
  pub regs : Regs
  pub spaces : List Space

-- what no call of a shift changes
pub record World : Type 0 where
  pub has : ℕ → Bool
  pub right : ℕ → ℕ → Right
  pub pool : ℕ → Option ℕ
  pub pages : ℕ → List ℕ
  pub window : Pane
  pub admitted : ℕ → Bool

-- the words, which pages are free, the guests, and who runs: 0 for none
pub record State : Type 0 where
  pub word : ℕ → ℕ → ℕ
  pub free : ℕ → ℕ → Bool
  pub guest : ℕ → Guest
  pub running : ℕ

-- the present key: 0 for off, b + 1 for on with base page b
abbrev pub key_of : Regs → ℕ
key_of r = cond r.paging (suc r.base) 0

abbrev pub paging_in : ℕ → Option ℕ
paging_in zero = None
paging_in (suc b) = Some b

abbrev pub at : {A : Type 0} → (ℕ → A) → ℕ → A → ℕ → A
at f i a j = cond (eqb j i) a (f j)

abbrev pub put : (ℕ → ℕ → ℕ) → ℕ → ℕ → ℕ → ℕ → ℕ → ℕ
put f p k v q j = cond (eqb q p && eqb j k) v (f q j)

abbrev pub root_at : ℕ → List Space → Option ℕ
root_at k [] = None
root_at k (x ∷ l) = cond (eqb k x.key) (Some x.root) (root_at k l)

abbrev pub or_zero : Option ℕ → ℕ
or_zero None = 0
or_zero (Some n) = n

abbrev pub enrolled : World → ℕ → ℕ → Bool
enrolled w g p = member p (w.pages g)

abbrev pub free_count : World → State → ℕ → ℕ
free_count w s g = count (s.free g) (w.pages g)

abbrev pub leaf_mark : ℕ → ℕ
leaf_mark p = p * 4096 + 1

abbrev pub map_word : ℕ → Right → ℕ
map_word p r = p * 4096 + attributes r

abbrev pub page_in : ℕ → ℕ
page_in v = v / 4096

-- the right of a mapping's word
abbrev pub right_in : ℕ → Right
right_in v = cond (eqb (v % 4096) 0x3E) Write Read

-- the present root of guest g: that of its present key
abbrev pub present : State → ℕ → Option ℕ
present s g = root_at (key_of (s.guest g).regs) (s.guest g).spaces

-- all of a guest's pages are free and zero, and it has no space
unfoldable pub drop : World → State → ℕ → State
drop w s g = record {
  word = λ p k. cond (enrolled w g p) 0 (s.word p k);
  free = at s.free g (enrolled w g);
  guest = at s.guest g (record { regs = (s.guest g).regs; spaces = [] });
  running = s.running;
}

unfoldable pub new_root : State → ℕ → ℕ → State
new_root s g p = record {
  word = s.word;
  free = at s.free g (at (s.free g) p false);
  guest = at s.guest g (record { regs = (s.guest g).regs; spaces = record { key = key_of (s.guest g).regs; root = p } ∷ (s.guest g).spaces });
  running = s.running;
}

unfoldable pub new_leaf : State → ℕ → ℕ → ℕ → ℕ → State
new_leaf s g r i p = record {
  word = put s.word r i (leaf_mark p);
  free = at s.free g (at (s.free g) p false);
  guest = s.guest;
  running = s.running;
}

unfoldable pub write : State → ℕ → ℕ → ℕ → State
write s p k v = record { word = put s.word p k v; free = s.free; guest = s.guest; running = s.running }

-- p is a leaf that one of the roots names at place n
abbrev pub names : (ℕ → ℕ → ℕ) → List Space → ℕ → ℕ → Bool
names f [] n p = false
names f (x ∷ l) n p = (not (eqb (f x.root n) 0) && eqb (page_in (f x.root n)) p) || names f l n p

-- place j is zeroed in the leaf at n of each of the guest's spaces
unfoldable pub wipe : State → ℕ → ℕ → ℕ → State
wipe s g n j = record { word = λ p i. cond (names s.word (s.guest g).spaces n p && eqb i j) 0 (s.word p i); free = s.free; guest = s.guest; running = s.running }

-- a space for the present key
abbrev pub crowded : World → State → ℕ → Bool
crowded w s g = leb 4 (length (s.guest g).spaces) || eqb (free_count w s g) 0

abbrev pub cleared : World → State → ℕ → Bool → State
cleared w s g b = cond b (drop w s g) s

abbrev pub rooted_by : World → State → ℕ → ℕ → Option ℕ → State
rooted_by w s g p None = new_root (cleared w s g (crowded w s g)) g p
rooted_by w s g p (Some r) = s

unfoldable pub rooted : World → State → ℕ → ℕ → State
rooted w s g p = rooted_by w s g p (present s g)

abbrev pub place : State → ℕ → ℕ → ℕ
place s g i = s.word (or_zero (present s g)) i

unfoldable pub roomy : World → State → ℕ → ℕ → ℕ → State
roomy w s g i p = cond (eqb (place s g i) 0 && eqb (free_count w s g) 0) (new_root (drop w s g) g p) s

unfoldable pub leafed : State → ℕ → ℕ → ℕ → State
leafed s g i p = cond (eqb (place s g i) 0) (new_leaf s g (or_zero (present s g)) i p) s

unfoldable pub filled : World → Picks → State → ℕ → ℕ → ℕ → State
filled w q s g va v =
    let i = va / 1048576 in
    let t = leafed (roomy w (rooted w s g q.first) g i q.afresh) g i q.leaf in
    write t (page_in (place t g i)) (va / 4096 % 256) v

-- what guest g sees through the window
abbrev pub looks : World → State → ℕ → Sight
looks w s g = sight (record { has = w.has; word = s.word }) (w.right g) w.window

abbrev pub walked : World → State → ℕ → ℕ → Access → Result Mapping Abort
walked w s g va x = walk_answer (looks w s g) (paging_in (key_of (s.guest g).regs)) va x

-- a guest's registers set
abbrev pub set_regs : State → ℕ → Regs → State
set_regs s g r = record { word = s.word; free = s.free; guest = at s.guest g (record { regs = r; spaces = (s.guest g).spaces }); running = s.running }

abbrev pub failed : Regs → Abort → ℕ → Access → Regs
failed r e va x = record { paging = r.paging; base = r.base; code = status_code e x; address = va }

abbrev pub fault_by : World → Picks → State → ℕ → ℕ → Access → Result Mapping Abort → State × Answer
fault_by w q s g va x (Err e) = (set_regs s g (failed (s.guest g).regs e va x), Ok (Aborted e))
fault_by w q s g va x (Ok m) = (filled w q s g va (map_word m.page m.right), Ok (Mapped m))

-- the word at place j of the leaf that place n of a root names; 0: nothing is mapped
abbrev pub mapping_at : State → Option ℕ → ℕ → ℕ → ℕ
mapping_at s None n j = 0
mapping_at s (Some r) n j = cond (eqb (s.word r n) 0) 0 (s.word (page_in (s.word r n)) j)

abbrev pub shadow : State → ℕ → ℕ → ℕ
shadow s g va = mapping_at s (present s g) (va / 1048576) (va / 4096 % 256)

abbrev pub is_write : Right → Bool
is_write Nothing = false
is_write Read = false
is_write Write = true

abbrev pub load_by : State → ℕ → ℕ → State × Answer
load_by s va v = cond (eqb v 0) (s, Err NotMapped) (s, Ok (Loaded (s.word (page_in v) (va / 4 % 1024))))

abbrev pub store_by : State → ℕ → ℕ → ℕ → State × Answer
store_by s va x v = cond (is_write (right_in v) && not (eqb v 0)) (write s (page_in v) (va / 4 % 1024) x, Ok Done) (s, Err NotMapped)

abbrev pub switched : Regs → ℕ → Regs
switched r b = record { paging = r.paging; base = b / 4096; code = r.code; address = r.address }

abbrev pub paged : Regs → Bool → Regs
paged r b = record { paging = b; base = r.base; code = r.code; address = r.address }

abbrev pub guest_step : World → Picks → State → ℕ → Call → State × Answer
guest_step w q s g (Schedule h) = (s, Err NoGuestRuns)
guest_step w q s g (Switch b) = (set_regs s g (switched (s.guest g).regs b), Ok Done)
guest_step w q s g PagingOn = (set_regs s g (paged (s.guest g).regs true), Ok Done)
guest_step w q s g PagingOff = (set_regs s g (paged (s.guest g).regs false), Ok Done)
guest_step w q s g Call.Status = (s, Ok (Reply.Status (s.guest g).regs.code (s.guest g).regs.address))
guest_step w q s g Flush = (drop w s g, Ok Done)
guest_step w q s g (FlushPage va) = (wipe s g (va / 1048576) (va / 4096 % 256), Ok Done)
guest_step w q s g (Fault va x) = fault_by w q s g va x (walked w s g va x)
guest_step w q s g (Load va) = cond (eqb (va % 4) 0) (load_by s va (shadow s g va)) (s, Err Misaligned)
guest_step w q s g (Store va x) = cond (eqb (va % 4) 0) (store_by s va x (shadow s g va)) (s, Err Misaligned)

abbrev pub runs_next : State → ℕ → State
runs_next s h = record { word = s.word; free = s.free; guest = s.guest; running = h }

abbrev pub scheduled : World → State → ℕ → State × Answer
scheduled w s h = cond (is_guest h) (cond (w.admitted h) (runs_next s h, Ok Done) (s, Err NotAdmitted)) (s, Err GuestOutOfRange)

-- a call of the guest that runs
abbrev pub by_running : State → State × Answer → State × Answer
by_running s r = cond (eqb s.running 0) (s, Err NoGuestRuns) r

abbrev pub step : World → Picks → State → Call → State × Answer
step w q s (Schedule h) = scheduled w s h
step w q s (Switch b) = by_running s (guest_step w q s s.running (Switch b))
step w q s PagingOn = by_running s (guest_step w q s s.running PagingOn)
step w q s PagingOff = by_running s (guest_step w q s s.running PagingOff)
step w q s Call.Status = by_running s (guest_step w q s s.running Call.Status)
step w q s Flush = by_running s (guest_step w q s s.running Flush)
step w q s (FlushPage va) = by_running s (guest_step w q s s.running (FlushPage va))
step w q s (Fault va x) = by_running s (guest_step w q s s.running (Fault va x))
step w q s (Load va) = by_running s (guest_step w q s s.running (Load va))
step w q s (Store va x) = by_running s (guest_step w q s s.running (Store va x))
