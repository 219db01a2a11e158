-- One guest's marks after a take.
use Rattle.std.proofs.Common.{◌≡◌, ℕ, ◌+◌, ◌<◌, Bool, true, false, List, length, get_or, set, Some, None, Err, Result, sym, refl, ap, ◌∙◌, subst, rules}
use Rattle.platform.specs.declared.refusal.Refusal.{Refusal}
use Rattle.platform.specs.declared.refusal.Refusal.TheVariants.{KeeperRefuses}
use Rattle.platform.specs.Lists.{member}
use Rattle.keepers.specs.declared.mark.Mark.{Mark}
use Rattle.keepers.specs.Meanings.{same_share, set_pages}
use Rattle.keepers.specs.Rows.{pages_of, is_free, round_place, page_at, set_free, Ring, ring_share}
use Rattle.keepers.specs.Sets.{distinct}
use Rattle.keepers.specs.Shares.{Share, share_marked, ShareTaken}
use Rattle.keepers.proofs.Rows.{page_read, page_within, set_is, set_frees, round_free, round_none, count_nothing, free_pages}

abbrev shared : List Mark → Share
shared ms = record { pages = pages_of ms; free = is_free ms }

-- the mark at a place changed
ring_set : (r : Ring) (i : ℕ) (b : Bool) (p : ℕ) → distinct (pages_of r.marks) ≡ true → i < length r.marks → page_at r.marks i ≡ p
    → ◌≡◌ {A = Share} (record { pages = pages_of (set_free r.marks i b); free = is_free (set_free r.marks i b) }) (share_marked (ring_share r) p b)
ring_set r i b p d l e =
    same_share (record { pages = pages_of (set_free r.marks i b); free = is_free (set_free r.marks i b) }) (share_marked (ring_share r) p b)
    (set_pages r.marks i b) (λ q. let f = set_frees r.marks i b q d l in search rules)

-- the page that is taken: it is enrolled, it was free, and it is so no more
module _ (ms : List Mark) (n i : ℕ) (x : Mark) (d : distinct (pages_of ms) ≡ true) (e : Some i ≡ round_place ms n) (r : x ≡ get_or ms i x) where
  taken_read : page_at ms i ≡ x.page
  taken_read = page_read ms i x (round_free ms n i (sym e)).within r

  pub taken_had : member x.page (pages_of ms) ≡ true
  taken_had = ap (λ (q : ℕ). member q (pages_of ms)) (sym taken_read) ∙ page_within ms i (round_free ms n i (sym e)).within

  pub taken_free : is_free ms x.page ≡ true
  taken_free = ap (is_free ms) (sym taken_read) ∙ (round_free ms n i (sym e)).free

  pub taken_left : ring_share (record { marks = set ms i (record { page = x.page; free = false }); next = i + 1 })
      ≡ share_marked (ring_share (record { marks = ms; next = n })) x.page false
  taken_left =
      let w = (round_free ms n i (sym e)).within in
      ap (λ (ns : List Mark). shared ns) (set_is ms i x false w r) ∙ ring_set (record { marks = ms; next = n }) i false x.page d w taken_read

-- or none to take
pub ring_untaken : (ms : List Mark) (n : ℕ) (a : Result ℕ Refusal) → distinct (pages_of ms) ≡ true → a ≡ Err KeeperRefuses → round_place ms n ≡ None
    → ShareTaken (ring_share (record { marks = ms; next = n })) a (ring_share (record { marks = ms; next = n }))
ring_untaken ms n a d e u =
    let c = free_pages ms d ∙ count_nothing (λ m. m.free) ms (round_none ms n u) in
    subst (λ (b : Result ℕ Refusal). ShareTaken (shared ms) b (shared ms)) (sym e) (refl, c, refl)
