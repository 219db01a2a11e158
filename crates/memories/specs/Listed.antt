-- Listed pages: what a table of pages holds, and what listing does to it.
use Rattle.std.specs.Prelude.{ℕ, zero, suc, ◌+◌, Bool, false, cond, ◌||◌, List, [], ◌∷◌, replicate, is_ok, Ok, Err, vec_items, vec_len, Option, Result, ◌==◌, nat_eq, nat_le, slice_index}
use Rattle.platform.specs.declared.refusal.Refusal.{Refusal}
use Rattle.platform.specs.declared.refusal.Refusal.TheVariants.{OutOfLimits, TableFull, Conflict}
use Rattle.platform.specs.declared.span.Span.{Span}
use Rattle.std.specs.List.{list_any, position, range_with_len}
use Rattle.platform.specs.Spans.{fits_book}
use Rattle.platform.specs.Memories.{Mem, written}
use Rattle.memories.specs.declared.listed.ListedPage.{ListedPage}
use Rattle.memories.specs.declared.listed.ListedPages.{ListedPages}

-- page p with words that are all 0
abbrev pub blank_page : ℕ → ListedPage
blank_page p = record { number = p; words = replicate 1024 0 }

-- whether a page is listed
abbrev pub lists : List ListedPage → ℕ → Bool
lists xs p = list_any (λ x. nat_eq x.number p) xs

-- the words of a listed page, none of one that is not
abbrev pub words_of : List ListedPage → ℕ → List ℕ
words_of [] p = []
words_of (x ∷ xs) p = cond (x.number == p) x.words (words_of xs p)

-- where a page stands in the table, if it is listed
abbrev pub found_at : List ListedPage → ℕ → Option ℕ
found_at xs p = position (λ x. nat_eq x.number p) xs

-- the memory that a table of pages is
abbrev pub listed : List ListedPage → Mem
listed xs = record { has = lists xs; word = λ p k. slice_index (words_of xs p) k }

-- a memory of listed pages, and how many are listed
pub record Catalog : Type 0 where
  pub mem : Mem
  pub count : ℕ

abbrev pub catalog : ListedPages → Catalog
catalog s = record { mem = listed (vec_items s.pages); count = vec_len s.pages }

abbrev pub empty : Catalog
empty = record { mem = record { has = λ _. false; word = λ _ _. 0 }; count = 0 }

-- page p more: the words of every page that was not there are 0
abbrev pub with_blank : Catalog → ℕ → Catalog
with_blank c p = record {
  mem = record { has = λ q. (p == q) || c.mem.has q; word = λ q k. cond (c.mem.has q) (c.mem.word q k) 0 };
  count = c.count + 1;
}

-- n pages more from page p on
abbrev pub with_blanks : Catalog → ℕ → ℕ → Catalog
with_blanks c p zero = c
with_blanks c p (suc n) = with_blank (with_blanks c p n) (p + n)

-- whether one of n pages from page p on is there
abbrev pub any_had : Mem → ℕ → ℕ → Bool
any_had m p n = list_any m.has (range_with_len p n)

-- the refusal of a span, if any: bad limits, then no room, then a page that is listed already
abbrev pub list_answer : Catalog → Span → Result (Unit {0}) Refusal
list_answer c s =
    cond (fits_book s)
    (cond (nat_le (c.count + s.count) 12)
    (cond (any_had c.mem s.first s.count) (Err Conflict) (Ok tt))
    (Err TableFull))
    (Err OutOfLimits)

-- all pages of the span listed, or, where it is refused, all as it was
abbrev pub list_after : Catalog → Span → Catalog
list_after c s = cond (is_ok (list_answer c s)) (with_blanks c s.first s.count) c

-- what a write leaves
abbrev pub catalog_written : Catalog → ℕ → ℕ → ℕ → Catalog
catalog_written c p k w = record { mem = written c.mem p k w; count = c.count }
