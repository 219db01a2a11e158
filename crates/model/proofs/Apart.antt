-- Two shifts that agree in a guest's list answer it alike.
use Rattle.std.proofs.Common.{◌≡◌, ℕ, ◌/◌, ◌%◌, ◌<◌, ◌≤◌, true, false, cond, not, ◌&&◌, eqb, ltb, leb, List, ◌∷◌, length, is_some, None, Option, sym, refl, ap, ◌∙◌, subst, ap₂, ltb-true, eq-eqb, ne_eqb, eqb-true, leb-true, Err}
use Rattle.platform.specs.declared.refusal.Refusal.TheVariants.{NoGuestRuns}
use Rattle.platform.specs.declared.right.Right.{Right}
use Rattle.platform.specs.Rights.{rank}
use Rattle.model.specs.Answers.{Answer}
use Rattle.model.specs.declared.calls.Call.{Call}
use Rattle.model.specs.declared.calls.Call.TheVariants.{Schedule, Switch, PagingOn, PagingOff, Flush, FlushPage, Fault, Load, Store}
use Rattle.model.specs.Fills.{Picks}
use Rattle.platform.specs.Windows.{Pane}
use Rattle.model.specs.Histories.{or_else}
use Rattle.model.specs.Shifts.{Turn, word_in}
use Rattle.model.proofs.Cases.{and_not}
use Rattle.model.proofs.Plain.{World, State, Regs, key_of, set_regs, failed, switched, paged, enrolled, root_at, page_in, map_word, drop, wipe, filled, free_count, mapping_at, shadow, guest_step, step, by_running}
use Rattle.model.proofs.Sound.{Lawful, Started}
use Rattle.model.proofs.Runs.{Fair, FairFor, Past, Move, Event, next, Run, begun, called, stored, is_schedule, call_of, news, turns, answers}
use Rattle.model.proofs.Basics.{clash, by_option, by_test}
use Rattle.model.proofs.Filling.{Good}
use Rattle.model.proofs.Keeping.{and_left, good_shift}
use Rattle.model.proofs.Counts.{count_all, count_same}
use Rattle.model.proofs.View.{Given, Alone, given_of, alone, leaf_at, own_step}
use Rattle.model.proofs.Alone.{alone_path, leaf_same, map_same, readable_same, readable_out}
use Rattle.model.proofs.Own.{alone_write, shadow_out, own, seen_by}
use Rattle.model.proofs.Others.{only_drop, only_wipe, only_filled, alone_other, only_guest}
use Rattle.model.proofs.Cases.{case_schedule, case_switch, case_on, case_off, case_status, case_flush, case_page, case_fault, case_load, case_store}
use Rattle.model.proofs.Link.{Linked, link_shift}
use Rattle.model.proofs.Words.{Put, same, fresh, puts}
use Rattle.model.proofs.View.{own_news, own_run, or_word}

-- all but the words
abbrev strip : Alone → Alone
strip a = record { regs = a.regs; rooted = a.rooted; leaf = a.leaf; map = a.map; number = a.number; free = a.free; words = λ p k. 0 }

strip_path : (a b : Alone) → strip a ≡ strip b → ((p k : ℕ) → a.words p k ≡ b.words p k) → a ≡ b
strip_path a b e h = alone_path a b (ap (λ (x : Alone). x.regs) e) (λ k. ap (λ (x : Alone). x.rooted k) e) (λ k n. ap (λ (x : Alone). x.leaf k n) e) (λ k n j. ap (λ (x : Alone). x.map k n j) e) (ap (λ (x : Alone). x.number) e) (ap (λ (x : Alone). x.free) e) h

news_none : (w : World) (i : ℕ) (s : State) → alone w i s ≡ own_news (given_of w i) (alone w i s) (λ p k. None)
news_none w i s = strip_path (alone w i s) (own_news (given_of w i) (alone w i s) (λ p k. None)) refl
    (λ p k. by_test (λ b. cond b (s.word p k) 0 ≡ cond b (cond b (s.word p k) 0) 0) (leb 1 (rank (w.right i p))) (λ e. refl) (λ e. refl))

news_twice : (G : Given) (a : Alone) (u v : ℕ → ℕ → Option ℕ) → own_news G (own_news G a u) v ≡ own_news G a (λ p j. cond (leb 1 (rank (G.right p))) (or_else (v p j) (u p j)) None)
news_twice G a u v = strip_path (own_news G (own_news G a u) v) (own_news G a (λ p j. cond (leb 1 (rank (G.right p))) (or_else (v p j) (u p j)) None)) refl
    (λ p k. by_test (λ b. cond b (or_word (v p k) (cond b (or_word (u p k) (a.words p k)) 0)) 0 ≡ cond b (or_word (cond b (or_else (v p k) (u p k)) None) (a.words p k)) 0) (leb 1 (rank (G.right p)))
    (λ e. by_option (λ o. or_word o (or_word (u p k) (a.words p k)) ≡ or_word (or_else o (u p k)) (a.words p k)) (v p k) (λ z. refl) (λ y z. refl))
    (λ e. refl))

module _ (w : World) (L : Lawful w) (i : ℕ) (i0 : ¬ (i ≡ 0)) where
  alone_run : (s : State) (h : ℕ) → alone w i (record { word = s.word; free = s.free; guest = s.guest; running = h }) ≡ alone w i s
  alone_run s h =
      let t : State = record { word = s.word; free = s.free; guest = s.guest; running = h } in
      alone_path (alone w i t) (alone w i s) refl (λ k. refl) (λ k n. leaf_same s t (root_at k (s.guest i).spaces) n (λ r e. refl)) (λ k n j. map_same s t (root_at k (s.guest i).spaces) n j (λ r e. refl) (λ r e z. refl)) refl refl (λ p k. refl)

  abbrev Sp : State → State × Answer → Type 0
  Sp s r = strip (alone w i r.0) ≡ strip (alone w i s)

  others_regs : (s : State) (x : Regs) → Good w s → ¬ (i ≡ s.running) → strip (alone w i (set_regs s s.running x)) ≡ strip (alone w i s)
  others_regs s x G n = ap strip (alone_other w L s.running i s (set_regs s s.running x) n G (only_guest w L s.running s (record { regs = x; spaces = (s.guest s.running).spaces })))

  -- a call that is not i's leaves all but i's words
  others : (q : Picks) (s : State) (c : Call) → Good w s → Fair w q s c → (is_schedule c ≡ false → ¬ (i ≡ s.running)) → Sp s (step w q s c)
  others q s (Schedule x) G F n = case_schedule w q s (Sp s) (λ r. refl) x (λ o. ap strip (alone_run s x))
  others q s (Switch b) G F n = case_switch w q s (Sp s) (λ r. refl) b (λ r. others_regs s (switched (s.guest s.running).regs b) G (n refl))
  others q s PagingOn G F n = case_on w q s (Sp s) (λ r. refl) (λ r. others_regs s (paged (s.guest s.running).regs true) G (n refl))
  others q s PagingOff G F n = case_off w q s (Sp s) (λ r. refl) (λ r. others_regs s (paged (s.guest s.running).regs false) G (n refl))
  others q s Call.Status G F n = case_status w q s (Sp s) (λ r. refl) (λ c a. refl)
  others q s Flush G F n = case_flush w q s (Sp s) (λ r. refl) (λ r. ap strip (alone_other w L s.running i s (drop w s s.running) (n refl) G (only_drop w L s.running s)))
  others q s (FlushPage va) G F n = case_page w q s (Sp s) (λ r. refl) va (λ r. ap strip (alone_other w L s.running i s (wipe s s.running (va / 1048576) (va / 4096 % 256)) (n refl) G (only_wipe w L s.running s (va / 1048576) (va / 4096 % 256) G)))
  others q s (Fault va x) G F n = case_fault w q s (Sp s) (λ r. refl) va x (λ e. others_regs s (failed (s.guest s.running).regs e va x) G (n refl))
      (λ m r e. ap strip (alone_other w L s.running i s (filled w q s s.running va (map_word m.page m.right)) (n refl) G (only_filled w L s.running q s va (map_word m.page m.right) G (F m e))))
  others q s (Load va) G F n = case_load w q s (Sp s) (λ r. refl) va (λ y. refl)
  others q s (Store va x) G F n = case_store w q s (Sp s) (λ r. refl) va x (λ r a z. ap strip (alone_write w L i s (page_in (shadow s s.running va)) (va / 4 % 1024) x G (shadow_out w L s.running s va G z)))

  put_news : (p old new : ℕ) (st : Option (ℕ × ℕ)) → Put w p old new st → new ≡ or_word (word_in st) old
  put_news p old new st (same e n) = e ∙ sym (ap (λ o. or_word (word_in o) old) n)
  put_news p old new st (fresh m n e r) = e ∙ sym (ap (λ o. or_word (word_in o) old) n)

  not_mine : (h : Past) (m : Move) → Good w h.now → Linked h → Fair w m.picks h.now m.call → (is_schedule m.call ≡ false → ¬ (i ≡ h.now.running)) →
      alone w i (next w h m).now ≡ own_news (given_of w i) (alone w i h.now) (λ p j. word_in (stored h.log p j h.now.running (key_of (h.now.guest h.now.running).regs) m.call (step w m.picks h.now m.call).1))
  unfolding next
  not_mine h m G K F n =
      let st : ℕ → ℕ → Option (ℕ × ℕ) = λ p j. stored h.log p j h.now.running (key_of (h.now.guest h.now.running).regs) m.call (step w m.picks h.now m.call).1 in
      strip_path (alone w i (next w h m).now) (own_news (given_of w i) (alone w i h.now) (λ p j. word_in (st p j))) (others m.picks h.now m.call G F n)
      (λ p j. readable_same (leb 1 (rank (w.right i p))) ((next w h m).now.word p j) (or_word (word_in (st p j)) ((alone w i h.now).words p j))
      (λ e. put_news p (h.now.word p j) ((next w h m).now.word p j) (st p j) (puts w L m.picks h G K p j (readable_out w L i p e) m.call F) ∙ ap (or_word (word_in (st p j))) (sym (ap (λ b. cond b (h.now.word p j) 0) e))))

  mine_at : (q : Picks) (s : State) (c : Call) → s.running ≡ i → Good w s → Fair w q s c → step w q s c ≡ by_running s (guest_step w q s s.running c) → seen_by w L i (step w q s c) ≡ own_step (given_of w i) (alone w i s) c
  mine_at q s c e G F z =
      ap (seen_by w L i) z
      ∙ ap (λ b. seen_by w L i (cond b (s, Err NoGuestRuns) (guest_step w q s s.running c))) (ne_eqb s.running 0 (λ o. i0 (sym e ∙ o)))
      ∙ ap (λ x. seen_by w L i (guest_step w q s x c)) e
      ∙ own w L i q s c G (subst (λ x. FairFor w q s x c) e F)

  mine : (q : Picks) (s : State) (c : Call) → s.running ≡ i → is_schedule c ≡ false → Good w s → Fair w q s c → seen_by w L i (step w q s c) ≡ own_step (given_of w i) (alone w i s) c
  mine q s (Schedule x) e n G F = clash refl n
  mine q s (Switch b) e n G F = mine_at q s (Switch b) e G F refl
  mine q s PagingOn e n G F = mine_at q s PagingOn e G F refl
  mine q s PagingOff e n G F = mine_at q s PagingOff e G F refl
  mine q s Call.Status e n G F = mine_at q s Call.Status e G F refl
  mine q s Flush e n G F = mine_at q s Flush e G F refl
  mine q s (FlushPage va) e n G F = mine_at q s (FlushPage va) e G F refl
  mine q s (Fault va x) e n G F = mine_at q s (Fault va x) e G F refl
  mine q s (Load va) e n G F = mine_at q s (Load va) e G F refl
  mine q s (Store va x) e n G F = mine_at q s (Store va x) e G F refl

  module _ (s : State) (T : Started w s) where
    abbrev Sim : State → List Turn → (ℕ → ℕ → Option ℕ) → List Answer → Type 0
    Sim t l u al = (alone w i t ≡ own_news (given_of w i) (own_run (given_of w i) (alone w i s) l).0 u) × (al ≡ (own_run (given_of w i) (alone w i s) l).1)

    sim : {h : Past} → Run w s h → Sim h.now (turns w i h.log) (news w i h.log) (answers i h.log)
    unfolding next own_run
    sim begun = (news_none w i s, refl)
    sim (called {h} m r F) =
        let G = good_shift w L s T r in
        let K = link_shift w L s T r in
        let ih = sim r in
        let e : Event = record { who = h.now.running; key = key_of (h.now.guest h.now.running).regs; call = m.call; answer = (step w m.picks h.now m.call).1 } in
        let t : Turn = record { call = m.call; others = news w i h.log } in
        let s2 = (step w m.picks h.now m.call).0 in
        by_test (λ b. Sim s2 (cond b (t ∷ turns w i h.log) (turns w i h.log))
        (λ p j. cond b None (cond (leb 1 (rank (w.right i p))) (or_else (word_in (stored h.log p j e.who e.key e.call e.answer)) (news w i h.log p j)) None))
        (cond b (e.answer ∷ answers i h.log) (answers i h.log))) (call_of i e)
        (λ c.
        let mn = mine m.picks h.now m.call (eqb-true h.now.running i (and_left (eqb h.now.running i) (not (is_schedule m.call)) c)) (and_not (eqb h.now.running i) (is_schedule m.call) c) G F
        ∙ ap (λ a. own_step (given_of w i) a m.call) ih.0 in (
          news_none w i s2 ∙ ap (λ (y : Alone × Answer). own_news (given_of w i) y.0 (λ p j. None)) mn,
          ap₂ ◌∷◌ (ap (λ (y : Alone × Answer). y.1) mn) ih.1,
        ))
        (λ c. (
          not_mine h m G K F (λ n d. clash (ap₂ (λ x y. x && not y) (eq-eqb h.now.running i (sym d)) n) c)
              ∙ ap (λ a. own_news (given_of w i) a (λ p j. word_in (stored h.log p j e.who e.key e.call e.answer))) ih.0
              ∙ news_twice (given_of w i) (own_run (given_of w i) (alone w i s) (turns w i h.log)).0 (news w i h.log) (λ p j. word_in (stored h.log p j e.who e.key e.call e.answer)),
          ih.1,
        ))

-- a started board as i has it
start_free : (w : World) (i : ℕ) (s : State) → Started w s → free_count w s i ≡ length (w.pages i)
start_free w i s T = count_same (s.free i) (enrolled w i) (w.pages i) (λ p. T.all_free i p) ∙ count_all (w.pages i)

-- two runs agree in guest i's view
pub record SameList (i : ℕ) (w : World) (s : State) (l : List Event) (w' : World) (s' : State) (l' : List Event) : Type 0 where
  pub window : w.window ≡ w'.window
  pub present_pages : (p : ℕ) → p < w.window.count → w.has p ≡ w'.has p
  pub rights : (p : ℕ) → w.right i p ≡ w'.right i p
  pub enrolled_count : length (w.pages i) ≡ length (w'.pages i)
  pub words : (p k : ℕ) → 1 ≤ rank (w.right i p) → s.word p k ≡ s'.word p k
  pub calls : turns w i l ≡ turns w' i l'

module _ (i : ℕ) (w : World) (s : State) (l : List Event) (v : World) (t : State) (k : List Event) (S : SameList i w s l v t k) where
  given_same : given_of w i ≡ given_of v i
  given_same = λ z. record { has = λ p. has_same p z; right = λ p. S.rights p z; total = S.enrolled_count z; window = S.window z }
    where
      has_same : (p : ℕ) → (given_of w i).has p ≡ (given_of v i).has p
      has_same p =
          by_test (λ b. cond b (w.has p) false ≡ cond b (v.has p) false) (ltb p w.window.count) (λ e. S.present_pages p (ltb-true p w.window.count e)) (λ e. refl)
          ∙ ap (λ (x : Pane). cond (ltb p x.count) (v.has p) false) S.window

  start_same : Started w s → Started v t → alone w i s ≡ alone v i t
  start_same A B = alone_path (alone w i s) (alone v i t)
      (A.no_regs i ∙ sym (B.no_regs i))
      (λ x. ap (λ y. is_some (root_at x y)) (A.no_space i) ∙ sym (ap (λ y. is_some (root_at x y)) (B.no_space i)))
      (λ x n. ap (λ y. leaf_at s (root_at x y) n) (A.no_space i) ∙ sym (ap (λ y. leaf_at t (root_at x y) n) (B.no_space i)))
      (λ x n j. ap (λ y. mapping_at s (root_at x y) n j) (A.no_space i) ∙ sym (ap (λ y. mapping_at t (root_at x y) n j) (B.no_space i)))
      (ap length (A.no_space i) ∙ sym (ap length (B.no_space i)))
      (start_free w i s A ∙ S.enrolled_count ∙ sym (start_free v i t B))
      (λ p x. readable_same (leb 1 (rank (w.right i p))) (s.word p x) (t.word p x) (λ e. S.words p x (leb-true 1 (rank (w.right i p)) e)) ∙ ap (λ (r : Right). cond (leb 1 (rank r)) (t.word p x) 0) (S.rights p))

-- the answers to i hang on its view alone
pub answers_alone : (i : ℕ) → ¬ (i ≡ 0) → (w : World) (s : State) (h : Past) (v : World) (t : State) (k : Past)
    → Lawful w → Started w s → Run w s h → Lawful v → Started v t → Run v t k → SameList i w s h.log v t k.log → answers i h.log ≡ answers i k.log
answers_alone i i0 w s h v t k Lw A R Lv B Q S =
    (sim w Lw i i0 s A R).1
    ∙ ap₂ (λ (G : Given) (a : Alone). (own_run G a (turns w i h.log)).1) (given_same i w s h.log v t k.log S) (start_same i w s h.log v t k.log S A B)
    ∙ ap (λ l. (own_run (given_of v i) (alone v i t) l).1) S.calls
    ∙ sym (sim v Lv i i0 t B Q).1
