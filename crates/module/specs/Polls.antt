-- The poll of a history of a slot's site: only the words of its histories are lent.
use Rattle.std.specs.Prelude.{ℕ, ◌<◌, length, ◌≡◌, true, false, List, [], Some, None}
use Rattle.std.specs.Prelude.{Option as Answer}
use Rattle.std.proofs.Math.Option.{Option, none, some}
use Rattle.std.proofs.Common.{arith, sym, ap, ◌∙◌}
use Rattle.forms.specs.declared.Refusal.TheVariants.{OutOfTurn}
use Rattle.rules.specs.State.{State}
use Rattle.rules.specs.Poll.{Polled, PollRefused, poll}
use Rattle.compact.specs.Module.{slot_at}
use Rattle.site.specs.declared.poll.PollAnswer.{PollAnswer}
use Rattle.site.specs.Polls.{polled_of, Polls, ValidWith}
use Rattle.site.specs.Model.{lent}
use Rattle.module.specs.declared.Module.{Module}
use Rattle.module.specs.Parts.{part_of}
use Rattle.module.specs.Model.{slot_in, live_in, ValidModule, view_of, around}
use Rattle.module.specs.CallLaws.{site-some, site_none, gathers_none, li, valid_lent, view-lent, opened-below}

-- What each answer says; 14 for a slot above 3, and one that is not opened.
unfoldable pub slot_polled : Answer PollAnswer → Polled
slot_polled None = PollRefused OutOfTurn
slot_polled (Some a) = polled_of a

abbrev pub poll_at : ℕ → Option State → Polled
poll_at h none = PollRefused OutOfTurn
poll_at h (some st) = poll h st

-- The module is valid with these words of the slot's histories, and with some of everything else.
abbrev pub ValidBook : Module → ℕ → List ℕ → Type 0
ValidBook m i book =
    (log : List ℕ) × (rows : List ℕ) × (numbers : List ℕ) × (logs : ℕ → List ℕ) × (books : ℕ → List ℕ) ×
    ValidModule m (around i (lent log rows numbers book []) logs books)

-- The answer is what the specification says of the slot, whatever else the module is valid with.
abbrev pub PollsIn : Module → ℕ → List ℕ → ℕ → Answer PollAnswer → Type 0
PollsIn m i book h r =
    (log rows numbers : List ℕ) (logs books : ℕ → List ℕ) → ValidModule m (around i (lent log rows numbers book []) logs books) →
    slot_polled r ≡ poll_at h (slot_at i (view_of m (around i (lent log rows numbers book []) logs books))).site

pub polls_none : (m : Module) (i : ℕ) (book : List ℕ) (h : ℕ) → (slot_in m.slots i).opened ≡ false → PollsIn m i book h None
unfolding slot_polled
polls_none m i book h off log rows numbers logs books v =
    sym (ap (poll_at h) (site_none m.slots (around i (lent log rows numbers book []) logs books) v i off))

pub polls-site : (m : Module) (i : ℕ) (book : List ℕ) (h : ℕ) (a : PollAnswer) → (slot_in m.slots i).opened ≡ true →
    Polls (slot_in m.slots i).site book h a → PollsIn m i book h (Some a)
unfolding slot_polled
polls-site m i book h a on P log rows numbers logs books v =
    let w = lent log rows numbers book [] in
    let g = gathers_none m.slots (around i w logs books) v i in
    let n = live_in m.slots i in
    let le = v.few i (li m i w logs books v on) in
    P log rows (part_of i n numbers) (valid_lent m i w logs books v on m.slots numbers g n (omega arith) le [])
    ∙ ap (poll h) (view-lent m i w logs books v on m.slots numbers g n (omega arith) le [])
    ∙ sym (ap (poll_at h) (site-some m.slots (around i w logs books) v i on))

pub book_valid : (m : Module) (i : ℕ) (book : List ℕ) → ValidBook m i book → (slot_in m.slots i).opened ≡ true →
    ValidWith (slot_in m.slots i).site book
book_valid m i book (log, rows, numbers, logs, books, v) on =
    let w = lent log rows numbers book [] in (
      log,
      rows,
      part_of i (live_in m.slots i) numbers,
      valid_lent m i w logs books v on m.slots numbers (gathers_none m.slots (around i w logs books) v i) (live_in m.slots i)
          (omega arith) (v.few i (li m i w logs books v on)) [],
    )

pub book_size : (m : Module) (i : ℕ) (book : List ℕ) → ValidBook m i book → length m.slots ≡ 4
book_size m i book v = v.5.size

pub book_below : (m : Module) (i : ℕ) (book : List ℕ) → ValidBook m i book → (slot_in m.slots i).opened ≡ true → i < 4
book_below m i book v on = opened-below m.slots (around i (lent v.0 v.1 v.2 book []) v.3 v.4) v.5 i on
