-- Every call can be made, a fault finds its pages, and what it filled is read back.
use Rattle.std.proofs.Common.{◌≡◌, ℕ, ◌+◌, ◌/◌, ◌%◌, ◌≤◌, Bool, true, false, cond, ◌||◌, eqb, List, [], ◌∷◌, is_some, Some, None, Ok, Err, Result, sym, refl, ap, ◌∙◌, subst, ap₂, arith, rules, eq-eqb, ne_eqb}
use Rattle.std.specs.Result.{is_err}
use Rattle.platform.specs.declared.access.Access.{Access}
use Rattle.platform.specs.declared.refusal.Refusal.{Refusal}
use Rattle.platform.specs.declared.refusal.Refusal.TheVariants.{NoGuestRuns}
use Rattle.platform.specs.declared.right.Right.{Right}
use Rattle.platform.specs.declared.right.Right.TheVariants.{Nothing, Read, Write}
use Rattle.platform.specs.Keepers.{Keep, take_refusal, free_count}
use Rattle.platform.specs.Lists.{count, member}
use Rattle.platform.specs.Rights.{rank}
use Rattle.descriptor.specs.Addresses.{first_index}
use Rattle.walk.specs.declared.abort.Abort.{Abort}
use Rattle.walk.specs.declared.abort.Abort.TheVariants.{PagePermission}
use Rattle.walk.specs.declared.mapping.Ask.{Ask}
use Rattle.walk.specs.declared.mapping.Mapping.{Mapping}
use Rattle.walk.specs.Walks.{ask}
use Rattle.model.specs.Answers.{Answer}
use Rattle.model.specs.declared.calls.Reply.TheVariants.{Mapped}
use Rattle.model.specs.declared.calls.Call.{Call}
use Rattle.model.specs.declared.calls.Call.TheVariants.{Schedule, Switch, PagingOn, PagingOff, Flush, FlushPage, Fault, Load, Store}
use Rattle.model.specs.Boards.{Board}
use Rattle.model.specs.Fills.{Picks, MayTake, WhereFound, FairRoom, FairLeaf, FairFill, Where, make_room, dropped, rooted, roomy}
use Rattle.model.specs.Steps as steps
use Rattle.model.specs.Tables.{NoFaultFailsForWantOfAPage, ShadowReadsBack}
use Rattle.model.proofs.Plain.{World, State, Regs, key_of, root_at, mapping_at, page_in, right_in, map_word, filled, walked, fault_by, shadow, step}
use Rattle.model.proofs.Runs.{FairFault}
use Rattle.model.proofs.Basics.{by_test, by_option, by_result, clash}
use Rattle.model.proofs.Filling.{Good}
use Rattle.model.proofs.Keeping.{map_page, map_right, granted_some}
use Rattle.model.proofs.Sound.{Lawful}
use Rattle.model.proofs.View.{Alone, given_of, alone}
use Rattle.model.proofs.Own.{alone_filled}
use Rattle.model.proofs.Link.{exact, left, filled_map}
use Rattle.model.proofs.Abstract.{who, plain, world}
use Rattle.model.proofs.Reading.{Says, nothing, maps, shadow_says}
use Rattle.model.proofs.Stepping.{Steady, stepped}
use Rattle.model.proofs.Telling.{regs_filled}
use Rattle.model.proofs.Coming.{came}

-- a keeper that gives a page has one that is free
found : (f : ℕ → Bool) (l : List ℕ) → ¬ (count f l ≡ 0) → (p : ℕ) × ((member p l ≡ true) × (f p ≡ true))
found f [] n = absurd (n refl)
found f (x ∷ l) n = by_test (λ t. f x ≡ t → (p : ℕ) × ((member p (x ∷ l) ≡ true) × (f p ≡ true))) (f x)
    (λ t e. (x, (ap (λ b. b || member x l) (eq-eqb x x refl), e)))
    (λ t e. let r = found f l (λ z. n (ap (λ b. cond b (1 + count f l) (count f l)) e ∙ z)) in (r.0, (or_right (eqb x r.0) r.1.0, r.1.1)))
    refl
  where
    or_right : (a : Bool) {b : Bool} → b ≡ true → (a || b) ≡ true
    or_right a {b} e = grind arith

not_refused : (k : Keep) (g : ℕ) → take_refusal k g ≡ None → ¬ (free_count k g ≡ 0)
not_refused k g e z = search (rules, e, eq-eqb (free_count k g) 0 z)

some_page : (b : Board) (g : ℕ) → (p : ℕ) × MayTake b g p
some_page b g = by_option (λ o. take_refusal b.keeper g ≡ o → (p : ℕ) × MayTake b g p) (take_refusal b.keeper g)
    (λ e d. let r = found (b.keeper.free g) (b.keeper.pages g) (not_refused b.keeper g d) in (r.0, λ z. r.1))
    (λ r e d. (0, λ z. clash (ap is_some d) (ap is_some z)))
    refl

-- some pages that the keeper may give in a fault
leaf_page : (g i : ℕ) (b : Board) (o : Result ℕ Refusal) → (l : ℕ) × WhereFound b o (λ d root. FairLeaf d g root i l)
leaf_page g i b (Ok root) = let p = some_page b g in (p.0, λ z. p.1)
leaf_page g i b (Err e) = (0, tt)

room_pages : (g i : ℕ) (b : Board) (o : Result ℕ Refusal) → (p l : ℕ) × WhereFound b o (λ c first. FairRoom c g first i p × Where (roomy c g first i p) (λ d root. FairLeaf d g root i l))
room_pages g i b (Ok first) =
    let p = some_page (dropped b g) g in
    let l = leaf_page g i (roomy b g first i p.0).after (roomy b g first i p.0).found in
    (p.0, l.0, (λ z. p.1, l.1))
room_pages g i b (Err e) = (0, 0, tt)

fill_pages : (b : Board) (g va : ℕ) → (q : Picks) × FairFill b g va q
fill_pages b g va =
    let p = some_page (make_room b g) g in
    let r = room_pages g (first_index va) (rooted b g p.0).after (rooted b g p.0).found in
    (record { first = p.0; afresh = r.0; leaf = r.1 }, (λ z. p.1, r.2))

no_pages : Picks
no_pages = record { first = 0; afresh = 0; leaf = 0 }

call_pages : (b : Board) (c : Call) → (q : Picks) × steps.Fair b c q
call_pages b (Schedule g) = (no_pages, tt)
call_pages b (Switch base) = (no_pages, tt)
call_pages b PagingOn = (no_pages, tt)
call_pages b PagingOff = (no_pages, tt)
call_pages b Flush = (no_pages, tt)
call_pages b (FlushPage va) = (no_pages, tt)
call_pages b (Fault va x) = by_option (λ o. (q : Picks) × steps.FairFor b o va x q) b.running
    (λ e. (no_pages, tt))
    (λ g e. by_result (λ o. (q : Picks) × steps.FairFault b g va q o) (steps.walked b g va x) (λ m d. fill_pages b g va) (λ a d. (no_pages, tt)))
call_pages b (Load va) = (no_pages, tt)
call_pages b (Store va x) = (no_pages, tt)
call_pages b Call.Status = (no_pages, tt)

-- a fault of a guest that runs is not refused
fault_step : (w : World) (q : Picks) (s : State) (va : ℕ) (x : Access) → ¬ (s.running ≡ 0) → step w q s (Fault va x) ≡ fault_by w q s s.running va x (walked w s s.running va x)
fault_step w q s va x n = ap (λ t. cond t (s, Err NoGuestRuns) (fault_by w q s s.running va x (walked w s s.running va x))) (ne_eqb s.running 0 n)

fault_answers : (w : World) (q : Picks) (s : State) (va : ℕ) (x : Access) → ¬ (s.running ≡ 0) → is_err (step w q s (Fault va x)).1 ≡ false
fault_answers w q s va x n =
    ap (λ (r : State × Answer). is_err r.1) (fault_step w q s va x n)
    ∙ by_result (λ o. is_err (fault_by w q s s.running va x o).1 ≡ false) (walked w s s.running va x) (λ m e. refl) (λ e d. refl)

runs_some : (b : Board) → Steady b → (g : ℕ) → b.running ≡ Some g → ¬ ((plain b).running ≡ 0)
runs_some b S g e z = clash (S.runner 0 (e ∙ ap Some (sym (ap who e) ∙ z))).0 refl

pub no_fault_fails_for_want_of_a_page : NoFaultFailsForWantOfAPage
no_fault_fails_for_want_of_a_page start T h b S =
    let C = came start T S in
    record {
      every_call = λ c. let q = call_pages b c in ((steps.step b c q.0).answer, (steps.step b c q.0).after, (q.0, (q.1, refl)));
      no_want = λ va x e after P.
          let D = stepped b (Fault va x) P.0 C.steady P.1.0 in
          let a : Err e ≡ (step (world b) P.0 (plain b) (Fault va x)).1 = ap (λ (t : steps.Turn). t.answer) P.1.1 ∙ D.says in
          sym C.running ∙ by_option (λ o. b.running ≡ o → o ≡ None) b.running
          (λ d z. refl)
          (λ g d z. clash (ap is_err (sym a)) (fault_answers (world b) P.0 (plain b) va x (runs_some b C.steady g z)))
          refl;
    }

-- what a fault filled is read back
filled_shadow : (w : World) (L : Lawful w) (q : Picks) (s : State) (g va v : ℕ) → Good w s → FairFault w q s g va → shadow (filled w q s g va v) g va ≡ v
filled_shadow w L q s g va v G F =
    let n = va / 1048576 in
    let j = va / 4096 % 256 in
    let k = key_of (s.guest g).regs in
    let t = filled w q s g va v in
    ap (λ (x : Regs). mapping_at t (root_at (key_of x) (t.guest g).spaces) n j) (regs_filled w g g q s va v)
    ∙ ap (λ (a : Alone). a.map k n j) (alone_filled w L g q s va v G F)
    ∙ elim (filled_map (given_of w g) (alone w g s) va v k n j) [ exact a b c e ↦ e | left f o ↦ absurd (f refl refl refl) ]

map_some : (p : ℕ) (r : Right) → 1 ≤ rank r → ¬ (map_word p r ≡ 0)
map_some p Nothing l e = absurd (omega arith)
map_some p Read l e = omega arith
map_some p Write l e = omega arith

says_mapping : (p v : ℕ) (r : Right) (o : Result Ask Abort) → 1 ≤ rank r → v ≡ map_word p r → Says v o → o ≡ Ok (ask p r PagePermission)
says_mapping p v r o l e (nothing a z) = absurd (map_some p r l (sym e ∙ z))
says_mapping p v r o l e (maps n) = ap₂ (λ x (y : Right). Ok (ask x y PagePermission)) (ap page_in e ∙ map_page p r) (ap right_in e ∙ map_right p r l)

mapped_filled : (w : World) (q : Picks) (s : State) (g va : ℕ) (x : Access) (m : Mapping) (o : Result Mapping Abort) → Ok (Mapped m) ≡ (fault_by w q s g va x o).1 → (o ≡ Ok m) × ((fault_by w q s g va x o).0 ≡ filled w q s g va (map_word m.page m.right))
mapped_filled w q s g va x m (Err e) d = absurd cc
mapped_filled w q s g va x m (Ok n) d =
    let e : n ≡ m = cc in
    (ap Ok e, ap (λ (y : Mapping). filled w q s g va (map_word y.page y.right)) e)

pub shadow_reads_back : ShadowReadsBack
shadow_reads_back start T h b S g va x m after r P =
    let C = came start T S in
    let q = P.0 in
    let w = world b in
    let D = stepped b (Fault va x) q C.steady P.1.0 in
    let run : b.running ≡ Some g = C.running ∙ r in
    let me : (plain b).running ≡ g = ap who run in
    let fs = fault_step w q (plain b) va x (runs_some b C.steady g run) ∙ ap (λ k. fault_by w q (plain b) k va x (walked w (plain b) k va x)) me in
    let a : Ok (Mapped m) ≡ (fault_by w q (plain b) g va x (walked w (plain b) g va x)).1 = ap (λ (t : steps.Turn). t.answer) P.1.1 ∙ D.says ∙ ap (λ (y : State × Answer). y.1) fs in
    let M = mapped_filled w q (plain b) g va x m (walked w (plain b) g va x) a in
    let F : FairFault w q (plain b) g va = subst (λ k. FairFault w q (plain b) k va) me (D.is_fair m (ap (λ k. walked w (plain b) k va x) me ∙ M.0)) in
    let v : shadow (plain (steps.step b (Fault va x) q).after) g va ≡ map_word m.page m.right = ap (λ (s : State). shadow s g va) (D.same ∙ ap (λ (y : State × Answer). y.0) fs ∙ M.1) ∙ filled_shadow w C.steady.lawful q (plain b) g va (map_word m.page m.right) C.steady.good F in
    ap (λ (t : steps.Turn). steps.shadow t.after g va) P.1.1
    ∙ says_mapping m.page _ m.right _ (granted_some w C.steady.lawful g (plain b) va x m M.0) v (shadow_says (steps.step b (Fault va x) q).after g D.steady.lawful D.steady.good va)
