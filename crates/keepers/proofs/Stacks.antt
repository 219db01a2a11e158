-- One guest's stack after a take, and how many of its pages are free.
use Rattle.std.proofs.Common.{◌≡◌, ℕ, ◌-◌, true, false, List, [], ◌∷◌, ◌++◌, length, take, Some, None, Ok, Err, Option, Result, vec_items, vec_len, sym, refl, ap, ◌∙◌, subst, arith, rules}
use Rattle.std.proofs.lemmas.List.{append-nil, length-take}
use Rattle.std.specs.Option.{option_to_list, ok_or}
use Rattle.platform.specs.declared.refusal.Refusal.{Refusal}
use Rattle.platform.specs.declared.refusal.Refusal.TheVariants.{KeeperRefuses}
use Rattle.platform.specs.Lists.{count, member}
use Rattle.keepers.specs.declared.stack.PageStack.{PageStack}
use Rattle.keepers.specs.Meanings.{same_share}
use Rattle.keepers.specs.Sets.{distinct, stacked}
use Rattle.keepers.specs.Shares.{Share, share_marked, ShareTaken}
use Rattle.keepers.specs.Stacks.{pile_of, pile_share}
use Rattle.keepers.proofs.Sets.{member_push, distinct_front, in_all, stacked_parts, stacked_count}

abbrev sh : List ℕ → List ℕ → Share
sh ps fs = record { pages = ps; free = λ p. member p fs }

-- the page on top taken
pile_taken : (ps fs fs' : List ℕ) (p : ℕ) → stacked ps fs ≡ true → fs ≡ fs' ++ p ∷ [] → ShareTaken (sh ps fs) (Ok p) (sh ps fs')
pile_taken ps fs fs' p s e =
    let t = stacked_parts ps fs s in
    let n = (distinct_front fs' p (ap (λ xs. distinct xs) (sym e) ∙ t.free)).1 in
    let f : member p fs ≡ true = let m = ap (member p) e ∙ member_push fs' p p in search rules in (
      in_all fs ps p t.within f,
      f,
      same_share (sh ps fs') (share_marked (sh ps fs) p false) refl (λ q. let m = ap (member q) e ∙ member_push fs' p q in search rules),
    )

-- or none to take
pile_untaken : (ps fs fs' : List ℕ) → stacked ps fs ≡ true → fs ≡ fs' ++ [] → fs' ≡ take (length fs - 1) fs → ShareTaken (sh ps fs) (Err KeeperRefuses) (sh ps fs')
pile_untaken ps fs fs' s e r =
    let a = ap (λ (xs : List ℕ). length xs) (e ∙ append-nil fs') in
    let b = ap (λ (xs : List ℕ). length xs) r in
    let c = length-take (length fs - 1) fs in
    let n : length fs ≡ 0 = omega arith in
    (refl, stacked_count ps fs s ∙ n, ap (λ xs. sh ps xs) (sym (e ∙ append-nil fs')))

pub pile_took : (ps fs fs' : List ℕ) (o : Option ℕ) (a : Result ℕ Refusal) → stacked ps fs ≡ true → fs ≡ fs' ++ option_to_list o → fs' ≡ take (length fs - 1) fs
    → a ≡ ok_or o KeeperRefuses → ShareTaken (pile_share (record { pages = ps; free = fs })) a (pile_share (record { pages = ps; free = fs' }))
pile_took ps fs fs' None a s e r u = subst (λ (b : Result ℕ Refusal). ShareTaken (sh ps fs) b (sh ps fs')) (sym u) (pile_untaken ps fs fs' s e r)
pile_took ps fs fs' (Some p) a s e r u = subst (λ (b : Result ℕ Refusal). ShareTaken (sh ps fs) b (sh ps fs')) (sym u) (pile_taken ps fs fs' p s e)

-- as many pages are free as lie on the stack
pub pile_counted : (s : PageStack) → vec_len s.free ≡ count (pile_share (pile_of s)).free (pile_share (pile_of s)).pages
pile_counted s = let e = stacked_count (vec_items s.pages) (vec_items s.free) s.neat in search rules
