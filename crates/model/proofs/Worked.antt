-- The worked shift, computed.
use Rattle.std.proofs.Common.{Some, ◌≡◌, ℕ, ◌<◌, ◌≤◌, true, ◌||◌, eqb, ltb, length, refl, lit≤, rules}
use Rattle.platform.specs.Books.{PoolsGiveNothing, OneWriter, FarPagesGiveNothing, StrangersHaveNothing}
use Rattle.platform.specs.Guests.{is_guest}
use Rattle.platform.specs.Lists.{count, member}
use Rattle.model.specs.Fills as fills
use Rattle.model.specs.Steps as steps
use Rattle.model.specs.Starts.{Started}
use Rattle.model.specs.Examples.{words, rights, tables, worked_start, worked_calls, worked_answers, play, FairPlay, one_way, other_way, WorkedShift}

one : play one_way worked_start worked_calls ≡ worked_answers
unfolding steps.fault fills.filled fills.rooted fills.roomy fills.leafed fills.take_root fills.dropped
one = refl

other : play other_way worked_start worked_calls ≡ worked_answers
unfolding steps.fault fills.filled fills.rooted fills.roomy fills.leafed fills.take_root fills.dropped
other = refl

one_is_fair : FairPlay one_way worked_start worked_calls
unfolding steps.fault fills.filled fills.rooted fills.roomy fills.leafed fills.take_root fills.dropped
one_is_fair = (tt, (tt, ((λ e z. (refl, refl), (λ e. search rules, λ e z. (refl, refl))), (tt, (tt, (tt, (tt, tt)))))))

other_is_fair : FairPlay other_way worked_start worked_calls
unfolding steps.fault fills.filled fills.rooted fills.roomy fills.leafed fills.take_root fills.dropped
other_is_fair = (tt, (tt, ((λ e z. (refl, refl), (λ e. search rules, λ e z. (refl, refl))), (tt, (tt, (tt, (tt, tt)))))))

pools_give_nothing : PoolsGiveNothing rights
pools_give_nothing g p n = search rules

one_writer : OneWriter rights
one_writer g h p a b = search rules

far_pages : FarPagesGiveNothing rights
far_pages g p l = search rules

strangers : StrangersHaveNothing rights
strangers g p e = search rules

own_pool : (g p : ℕ) → member p (tables g) ≡ true → rights.pool p ≡ Some g
own_pool g p e = search rules

in_window : (g p : ℕ) → member p (tables g) ≡ true → p < 12
in_window g p e = search rules

is_present : (g p : ℕ) → member p (tables g) ≡ true → ltb p 10 ≡ true
is_present g p e = search rules

once : (g p : ℕ) → member p (tables g) ≡ true → count (λ q. eqb q p) (tables g) ≡ 1
once g p e = search rules

guests_only : (g p : ℕ) → member p (tables g) ≡ true → is_guest g ≡ true
guests_only g p e = search rules

all_clear : (g p k : ℕ) → member p (tables g) ≡ true → words.word p k ≡ 0
all_clear g p k e = search rules

two_pages : (g : ℕ) → (eqb g 1 || eqb g 2) ≡ true → 2 ≤ length (tables g)
two_pages g e = search rules

is_start : Started worked_start
is_start = record {
  pools = pools_give_nothing;
  writers = one_writer;
  far = far_pages;
  strangers = strangers;
  window_size = lit≤ tt;
  own_pool = own_pool;
  in_window = in_window;
  is_present = is_present;
  once = once;
  guests_only = guests_only;
  all_free = λ g p. refl;
  all_clear = λ g p k e l. all_clear g p k e;
  two_pages = two_pages;
  new_guests = λ g. refl;
  none_runs = refl;
}

pub worked_shift : WorkedShift
worked_shift = record { starts = is_start; one_fair = one_is_fair; one_played = one; other_fair = other_is_fair; other_played = other }
