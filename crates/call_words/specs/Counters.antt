-- A site's counters in words: whether it is open, then twelve numbers.
use Rattle.std.specs.Prelude.{ℕ, ◌≡◌, Bool, cond, List, ◌∷◌, eqb, get_or}
use Rattle.site.specs.declared.Site.{Site}
use Rattle.call_words.specs.AnswerLaws.{bit_read}

-- Whether the site is open whose counters are the words.
abbrev pub open_at : List ℕ → Bool
open_at ws = eqb (get_or ws 0 0) 1

-- The site whose counters are the words.
unfoldable pub site_at : List ℕ → Site
site_at ws =
    record {
      count = get_or ws 1 0;
      used = get_or ws 2 0;
      head = get_or ws 3 0;
      base = record { 0 = get_or ws 4 0 };
      done = record { 0 = get_or ws 5 0 };
      persistent = record { 0 = get_or ws 6 0 };
      stable = record { 0 = get_or ws 7 0 };
      left = record { 0 = get_or ws 8 0 };
      restoring = eqb (get_or ws 9 0) 1;
      reserved = get_or ws 10 0;
      table = record { finished = get_or ws 11 0; queue = get_or ws 12 0 };
    }

-- The counters of a site, and further words.
unfoldable pub site_words : Bool → Site → List ℕ → List ℕ
site_words opened s rest =
    cond opened 1 0
    ∷ s.count
    ∷ s.used
    ∷ s.head
    ∷ s.base.0
    ∷ s.done.0
    ∷ s.persistent.0
    ∷ s.stable.0
    ∷ s.left.0
    ∷ cond s.restoring 1 0
    ∷ s.reserved
    ∷ s.table.finished
    ∷ s.table.queue
    ∷ rest

-- Counters that were written are read as they were.
pub open_words : (opened : Bool) (s : Site) (rest : List ℕ) → open_at (site_words opened s rest) ≡ opened
unfolding site_words
open_words opened s rest = bit_read opened

pub site_words_lem : (opened : Bool) (s : Site) (rest : List ℕ) → site_at (site_words opened s rest) ≡ s
unfolding site_at site_words
site_words_lem opened s rest = λ i.
    record {
      count = s.count;
      used = s.used;
      head = s.head;
      base = s.base;
      done = s.done;
      persistent = s.persistent;
      stable = s.stable;
      left = s.left;
      restoring = bit_read s.restoring i;
      reserved = s.reserved;
      table = s.table;
    }

-- An array of these words, in which two stand for the bools.
pub words_are : (opened : Bool) (s : Site) (rest : List ℕ) (x y : ℕ) → x ≡ cond opened 1 0 → y ≡ cond s.restoring 1 0 →
    x
    ∷ s.count
    ∷ s.used
    ∷ s.head
    ∷ s.base.0
    ∷ s.done.0
    ∷ s.persistent.0
    ∷ s.stable.0
    ∷ s.left.0
    ∷ y
    ∷ s.reserved
    ∷ s.table.finished
    ∷ s.table.queue
    ∷ rest
    ≡ site_words opened s rest
unfolding site_words
words_are opened s rest x y e f = rw (e, f)
