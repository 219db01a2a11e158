-- A shift is a run of the plain board.
use Rattle.std.proofs.Common.{◌≡◌, ℕ, suc, Bool, true, false, cond, ◌&&◌, eqb, ltb, ◌∷◌, map, unwrap_or, sym, refl, ap, ◌∙◌, subst, ap₂, Some, None}
use Rattle.std.proofs.lemmas.Bool.{ltb-true}
use Rattle.model.specs.Answers.{Answer}
use Rattle.model.specs.declared.calls.Call.{Call}
use Rattle.model.specs.Boards.{Board, word_at}
use Rattle.model.specs.Boards as board
use Rattle.model.specs.Fills.{Picks}
use Rattle.model.specs.Steps as steps
use Rattle.model.specs.Starts.{Started}
use Rattle.model.specs.Histories.{Event, History, or_else, is_done, scheduled, paging_set, base_set, page_in, is_one, runs, paging_of, base_of, key_in}
use Rattle.model.specs.Shifts.{Shift, begun, called}
use Rattle.model.proofs.Plain.{World, State, Regs, key_of, step, enrolled}
use Rattle.model.proofs.Sound.{Lawful}
use Rattle.model.proofs.Sound as sound
use Rattle.model.proofs.Runs.{Past, next, Run}
use Rattle.model.proofs.Runs as plain_runs
use Rattle.model.proofs.Basics.{by_test, by_option, clash, none_some}
use Rattle.model.proofs.Keeping.{good_start}
use Rattle.model.proofs.Abstract.{key_number, plain_space, plain_regs, who, plain, world}
use Rattle.model.proofs.Stepping.{Steady, Stepped, stepped}
use Rattle.model.proofs.Telling.{two, two_set, Tells, tells}
use Rattle.model.proofs.Logs.{log_of, Told, AllTold}

-- a start
module _ (start : Board) (T : Started start) where
  pub lawful_start : Lawful (world start)
  lawful_start = record {
    pool_none = λ g p n. T.pools g p n;
    one_writer = λ g h p a b. T.writers g h p a b;
    own_pool = T.own_pool;
    once = T.once;
    guests_only = T.guests_only;
    in_window = T.in_window;
    is_present = T.is_present;
    window_size = T.window_size;
    two_pages = T.two_pages;
  }

  clear_word : (g p k : ℕ) → enrolled (world start) g p ≡ true → word_at start.memory p k ≡ 0
  clear_word g p k e = by_test (λ t. ltb k 1024 ≡ t → cond (start.memory.has p && t) (start.memory.word p k) 0 ≡ 0) (ltb k 1024)
      (λ t d. ap (λ x. cond (start.memory.has p && true) x 0) (T.all_clear g p k e (ltb-true k 1024 d)) ∙ same_zero (start.memory.has p))
      (λ t d. and_false (start.memory.has p) (start.memory.word p k))
      refl
    where
      same_zero : (b : Bool) → ◌≡◌ {A = ℕ} (cond (b && true) 0 0) 0
      same_zero true = refl
      same_zero false = refl

      and_false : (b : Bool) (x : ℕ) → cond (b && false) x 0 ≡ 0
      and_false true x = refl
      and_false false x = refl

  pub plain_start : sound.Started (world start) (plain start)
  plain_start = record {
    zeroed = clear_word;
    all_free = T.all_free;
    no_space = λ g. ap (λ (x : board.Guest). map plain_space x.spaces) (T.new_guests g);
    no_regs = λ g. ap plain_regs (T.new_guests g);
    none_runs = ap who T.none_runs;
  }

  steady_start : Steady start
  steady_start = record {
    lawful = lawful_start;
    good = good_start (world start) lawful_start (plain start) plain_start;
    tied = λ g. ap (λ (x : board.Guest). x.tables) (T.new_guests g);
    stranger = λ p. T.strangers 0 p refl;
    runner = λ g e. none_some T.none_runs e;
  }

-- the paging state and the base that a history tells
abbrev two_of : History → ℕ → Bool × ℕ
two_of h g = (paging_of h g, base_of h g)

two_next : (h : History) (e : Event) (g : ℕ) (x : Regs) → two x ≡ two_of h g → cond (is_done e.answer && is_one (runs h) g) (two_set e.call x) (two x) ≡ two_of (e ∷ h) g
two_next h e g x d =
    ap (λ (y : Bool × ℕ). cond (is_done e.answer && is_one (runs h) g) (let r : Bool × ℕ = (unwrap_or (paging_set e.call) y.0, unwrap_or (base_set e.call) y.1) in r) y) d
    ∙ by_test (λ t. cond t (let r : Bool × ℕ = (unwrap_or (paging_set e.call) (paging_of h g), unwrap_or (base_set e.call) (base_of h g)) in r) (two_of h g) ≡ (cond t (unwrap_or (paging_set e.call) (paging_of h g)) (paging_of h g), cond t (unwrap_or (base_set e.call) (base_of h g)) (base_of h g))) (is_done e.answer && is_one (runs h) g) (λ t. refl) (λ t. refl)

-- what is known after a shift
pub record Came (start : Board) (h : History) (b : Board) : Type 0 where
  pub run : Run (world start) (plain start) (record { now = plain b; log = log_of h })
  pub steady : Steady b
  pub same_world : world b ≡ world start
  pub running : b.running ≡ runs h
  pub regs : (g : ℕ) → two ((plain b).guest g).regs ≡ two_of h g
  pub told : AllTold h

key_told : (h : History) (g : ℕ) (x : Regs) → two x ≡ two_of h g → key_of x ≡ key_number (key_in h g)
key_told h g x e =
    ap (λ (y : Bool × ℕ). cond y.0 (suc y.1) 0) e
    ∙ by_test (λ t. cond t (suc (base_of h g)) 0 ≡ key_number (cond t (Some (base_of h g)) None)) (paging_of h g) (λ t. refl) (λ t. refl)

module _ (start : Board) (h : History) (b : Board) (C : Came start h b) (c : Call) (q : Picks) (F : steps.Fair b c q) where
  abbrev s : State
  s = plain b

  abbrev event : Event
  event = record { call = c; answer = (steps.step b c q).answer }

  did : Stepped b c q
  did = stepped b c q C.steady F

  runs_same : s.running ≡ who (runs h)
  runs_same = ap who C.running

  told_by : (g : ℕ) → Tells s c g (step (world b) q s c)
  told_by g = tells (world b) q s g c

  told : Told h event
  told = record {
    no_map = λ z. ap page_in did.says ∙ (told_by 0).no_map (runs_same ∙ ap who z);
    no_store = λ z d. (told_by 0).no_store (runs_same ∙ ap who z) (ap is_done (sym did.says) ∙ d);
    some_guest = λ z. clash (C.steady.runner 0 (C.running ∙ z)).0 refl;
  }

  regs_after : (g : ℕ) → two ((plain (steps.step b c q).after).guest g).regs ≡ two_of (event ∷ h) g
  regs_after g =
      let x = (s.guest g).regs in
      ap (λ (t : State). two (t.guest g).regs) did.same
      ∙ by_option (λ o. runs h ≡ o → two ((step (world b) q s c).0.guest g).regs ≡ cond (is_done (steps.step b c q).answer && is_one o g) (two_set c x) (two x)) (runs h)
      (λ e d. (told_by g).idle (runs_same ∙ ap who d) ∙ sym (by_test (λ t. cond (t && false) (two_set c x) (two x) ≡ two x) (is_done (steps.step b c q).answer) (λ t. refl) (λ t. refl)))
      (λ r e d. (told_by g).set ∙ ap₂ (λ (a : Answer) (k : ℕ). cond (is_done a && eqb k g) (two_set c x) (two x)) (sym did.says) (runs_same ∙ ap who d))
      refl
      ∙ two_next h event g x (C.regs g)

  log_after : ◌≡◌ {A = Past} (next (world start) (record { now = s; log = log_of h }) (record { call = c; picks = q })) (record { now = plain (steps.step b c q).after; log = log_of (event ∷ h) })
  unfolding next
  log_after =
      let p : step (world start) q s c ≡ step (world b) q s c = ap (λ (w : World). step w q s c) (sym C.same_world) in
      let e : key_of (s.guest s.running).regs ≡ key_number (key_in h (who (runs h))) = ap (λ g. key_of (s.guest g).regs) runs_same ∙ key_told h (who (runs h)) (s.guest (who (runs h))).regs (C.regs (who (runs h))) in
      let n : (step (world start) q s c).0 ≡ plain (steps.step b c q).after = ap (λ (r : State × Answer). r.0) p ∙ sym did.same in
      let a : (step (world start) q s c).1 ≡ (steps.step b c q).answer = ap (λ (r : State × Answer). r.1) p ∙ sym did.says in
      λ i. record { now = n i; log = record { who = runs_same i; key = e i; call = c; answer = a i } ∷ log_of h }

  came_next : Came start (event ∷ h) (steps.step b c q).after
  came_next = record {
    run = subst (Run (world start) (plain start)) log_after (plain_runs.called (record { call = c; picks = q }) C.run (subst (λ (w : World). plain_runs.Fair w q s c) C.same_world did.is_fair));
    steady = did.steady;
    same_world = did.same_world ∙ C.same_world;
    running = did.running ∙ ap (λ o. cond (is_done (steps.step b c q).answer) (or_else (scheduled c) o) o) C.running;
    regs = regs_after;
    told = (C.told, told);
  }

pub came : (start : Board) → Started start → {h : History} {b : Board} → Shift start h b → Came start h b
came start T begun = record {
  run = plain_runs.begun;
  steady = steady_start start T;
  same_world = refl;
  running = T.none_runs;
  regs = λ g. ap two ((plain_start start T).no_regs g);
  told = tt;
}
came start T (called {h} {b} c a after S (q, (F, e))) =
    subst (λ (t : steps.Turn). Came start (record { call = c; answer = t.answer } ∷ h) t.after) (sym e) (came_next start h b (came start T S) c q F)
