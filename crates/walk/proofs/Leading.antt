-- The walk answers exactly where the guest's tables lead.
use Rattle.std.proofs.Common.{◌≡◌, ℕ, ◌/◌, Bool, true, cond, ltb, leb, ◌⊎◌, Some, None, Ok, Err, Option, Result, sym, refl, ap, ◌∙◌, subst, inl, inr, arith}
use Rattle.std.specs.Option.{ok_or}
use Rattle.std.proofs.lemmas.Bool.{leb-true, le-leb, ltb-true, lt-ltb}
use Rattle.platform.specs.declared.access.Access.{Access}
use Rattle.platform.specs.declared.right.Right.{Right}
use Rattle.platform.specs.Rights.{rank}
use Rattle.descriptor.specs.declared.entry.FirstLevel.{FirstLevel}
use Rattle.descriptor.specs.declared.entry.SecondLevel.{SecondLevel}
use Rattle.descriptor.specs.Addresses.{first_index}
use Rattle.descriptor.specs.Entries.{first_level, second_level}
use Rattle.walk.specs.declared.abort.Abort.{Abort}
use Rattle.walk.specs.declared.abort.Abort.TheVariants.{SectionTranslation, External, FirstLevelWalk, SectionPermission, SecondLevelWalk, PagePermission}
use Rattle.walk.specs.declared.mapping.Ask.{Ask}
use Rattle.walk.specs.declared.mapping.Mapping.{Mapping}
use Rattle.walk.specs.Sights.{Sight, permits}
use Rattle.walk.specs.Walks.{next, ask, ask_second, ask_entry, ask_first, asked, landed, reached, granted}
use Rattle.walk.specs.Leads.{ThroughTable, Leads, MayHave, AnswersAreLedTo, WhatIsLedToIsAnswered}
use Rattle.walk.proofs.Cases.{by_option, by_test}

second_leads : (d : SecondLevel) (q : Ask) → ask_second d ≡ Ok q → (d ≡ SecondLevel.LargePage q.page q.right) ⊎ (d ≡ SecondLevel.SmallPage q.page q.right)
second_leads SecondLevel.Invalid q h = absurd cc
second_leads (SecondLevel.LargePage g a) q h = inl cc
second_leads (SecondLevel.SmallPage g a) q h = inr cc

-- where a first-level word leads
abbrev From : Sight → ℕ → ℕ → Ask → Type 0
From s word va q = (first_level word va ≡ FirstLevel.Section q.page q.right) ⊎ ThroughTable s word va q.page q.right

first_leads : (s : Sight) (word va : ℕ) (d : FirstLevel) (q : Ask) → first_level word va ≡ d → ask_entry s va d ≡ Ok q → From s word va q
first_leads s word va FirstLevel.Invalid q e h = absurd cc
first_leads s word va FirstLevel.Supersection q e h = absurd cc
first_leads s word va (FirstLevel.Section g a) q e h = inl cc
first_leads s word va (FirstLevel.Table t k) q e h =
    by_option (λ o. next (ok_or o SecondLevelWalk) (λ u. ask_second (second_level u va)) ≡ Ok q → From s word va q) (s.seen t k)
    (λ _ f. absurd cc)
    (λ u is f. inr (t, (k, (u, (e, is, second_leads (second_level u va) q f)))))
    h

asks_lead : (s : Sight) (p : Option ℕ) (va : ℕ) (q : Ask) → asked s p va ≡ Ok q → Leads s va p q.page q.right
asks_lead s None va q =
    by_test (λ b. cond b (Ok (ask (va / 4096) (s.may (va / 4096)) External)) (Err External) ≡ Ok q → Leads s va None q.page q.right) (ltb va 0x40000000)
    (λ lt h. let e : ask (va / 4096) (s.may (va / 4096)) External ≡ q = cc in subst (λ (z : Ask). Leads s va None z.page z.right) e (ltb-true va 0x40000000 lt, refl, refl))
    (λ _ h. absurd cc)
asks_lead s (Some b) va q =
    by_test (λ c. cond c (next (ok_or (s.seen b (first_index va)) FirstLevelWalk) (λ v. ask_first s v va)) (Err SectionTranslation) ≡ Ok q → Leads s va (Some b) q.page q.right) (ltb va 0x40000000)
    (λ lt. by_option (λ o. next (ok_or o FirstLevelWalk) (λ v. ask_first s v va) ≡ Ok q → Leads s va (Some b) q.page q.right) (s.seen b (first_index va))
    (λ _ h. absurd cc)
    (λ v is h. (ltb-true va 0x40000000 lt, (v, (is, first_leads s v va (first_level v va) q refl h)))))
    (λ _ h. absurd cc)

lands_there : (s : Sight) (g : ℕ) (a : Right) (x : Access) (t : Mapping) → permits a x ≡ true → reached s g a ≡ Ok t → (t.right ≡ a) × MayHave s x g t
lands_there s g a x t ok =
    by_option (λ o. landed o (s.may g) a ≡ Ok t → (t.right ≡ a) × MayHave s x g t) (s.lies g)
    (λ _ h. absurd cc)
    (λ p is. by_test (λ b. cond b (Ok (record { page = p; right = a })) (Err External) ≡ Ok t → (t.right ≡ a) × MayHave s x g t) (leb (rank a) (rank (s.may g)))
    (λ le h.
    let e : record { page = p; right = a } ≡ t = cc in
    subst (λ (z : Mapping). (z.right ≡ a) × MayHave s x g z) e (refl, record { enough = ok; there = is; within = leb-true _ _ le }))
    (λ _ h. absurd cc))

answer_leads : (s : Sight) (p : Option ℕ) (va : ℕ) (x : Access) (t : Mapping) (r : Result Ask Abort) → asked s p va ≡ r → next r (granted s x) ≡ Ok t
    → (g : ℕ) × (Leads s va p g t.right × MayHave s x g t)
answer_leads s p va x t (Err e) k h = absurd cc
answer_leads s p va x t (Ok q) k h =
    by_test (λ b. cond b (reached s q.page q.right) (Err q.denied) ≡ Ok t → (g : ℕ) × (Leads s va p g t.right × MayHave s x g t)) (permits q.right x)
    (λ ok f. let d = lands_there s q.page q.right x t ok f in
    (q.page, (subst (λ (a : Right). Leads s va p q.page a) (sym d.0) (asks_lead s p va q k), d.1)))
    (λ _ f. absurd cc)
    h

pub answers_lead : AnswersAreLedTo
answers_lead s p va x t h = answer_leads s p va x t (asked s p va) refl h

leads_asked : (s : Sight) (p : Option ℕ) (va g : ℕ) (a : Right) → Leads s va p g a → (d : Abort) × (asked s p va ≡ Ok (ask g a d))
leads_asked s None va g a (lt, e, f) = (External, let z = lt-ltb va 0x40000000 lt in grind arith)
leads_asked s (Some b) va g a (lt, (v, (is, inl e))) = (SectionPermission, let z = lt-ltb va 0x40000000 lt in grind arith)
leads_asked s (Some b) va g a (lt, (v, (is, inr (t, (k, (u, (e, f, inl n))))))) = (PagePermission, let z = lt-ltb va 0x40000000 lt in grind arith)
leads_asked s (Some b) va g a (lt, (v, (is, inr (t, (k, (u, (e, f, inr n))))))) = (PagePermission, let z = lt-ltb va 0x40000000 lt in grind arith)

pub leads_answered : WhatIsLedToIsAnswered
leads_answered s p va x t g l c =
    let k = leads_asked s p va g t.right l in
    let e = k.1 in
    let le = le-leb (rank t.right) (rank (s.may g)) c.within in
    ap (λ (r : Result Ask Abort). next r (granted s x)) e
    ∙ ap (λ (b : Bool). cond b (reached s g t.right) (Err k.0)) c.enough
    ∙ ap (λ (o : Option ℕ). landed o (s.may g) t.right) c.there
    ∙ ap (λ (b : Bool). cond b (Ok t) (Err External)) le
