-- Calls of a site one after the other, without text.
use Rattle.std.specs.Prelude.{ℕ, zero, suc, ◌+◌, ◌%◌, ◌/◌, ◌≡◌, Bool, true, false, List, [], ◌∷◌, ◌++◌, eqb, length}
use Rattle.std.proofs.Math.Option.{some}
use Rattle.forms.specs.Forms.{Update}
use Rattle.forms.specs.declared.Rule.TheVariants.{Inc}
use Rattle.rules.specs.State.{State, Reply, refused, ok, settle, log_bytes}
use Rattle.rules.specs.Calls.{Call, step}
use Rattle.rules.specs.Run.{run}
use Rattle.site.specs.declared.Site.{Site}
use Rattle.site.specs.Model.{Lent, view, Valid}
use Rattle.stream.specs.Logging.{overlaid}

-- The log buffer after some calls: after each, the log's text at the front, and behind it the bytes that stood there.
unfoldable pub written : List Call → State → List ℕ → List ℕ
written [] st bytes = bytes
written (c ∷ cs) st bytes = written cs (settle (step c st) st) (overlaid (some (settle (step c st) st)) bytes)

-- The calls cs take the site s, to which `old` was lent, to r, to which `new` is lent.
pub record Reaches (s : Site) (old : Lent) (cs : List Call) (r : Site) (new : Lent) : Type 0 where
  pub valid : Valid r new
  pub state : view r new ≡ run cs (view s old)
  pub bytes : new.log ≡ written cs (view s old) old.log

-- the update that an operation asks for: part 0 of a profile becomes 7
abbrev pub inc_of : ℕ → ℕ → Update
inc_of h v = record { rule = Inc; history = h; version = v; operand = 7 }

-- An operation is added and finished.
abbrev pub work_calls : ℕ → List Call
work_calls i = Call.Add i (inc_of (i % 4) (i / 4 + 1) ∷ []) ∷ Call.Finish i ∷ []

-- All that is done is made persistent and stable.
abbrev pub mark_calls : ℕ → List Call
mark_calls n = Call.Persistent n ∷ Call.Stable n ∷ []

abbrev pub marked_if : Bool → ℕ → List Call
marked_if true i = mark_calls (i + 1)
marked_if false i = []

-- The operation with the id i, and after every 32nd the marks.
abbrev pub round_calls : ℕ → List Call
round_calls i = work_calls i ++ marked_if (eqb (i % 32) 31) i

-- The operations with the ids below n.
unfoldable pub rounds_calls : ℕ → List Call
rounds_calls zero = []
rounds_calls (suc n) = rounds_calls n ++ round_calls n

-- What n rounds from the state st leave: how many bytes the log of the state that they reach has, and every byte of the buffer that was
-- `old`.
pub record RoundsFrom (st : State) (n : ℕ) (old : List ℕ) (r : ℕ) (new : List ℕ) : Type 0 where
  pub used : r ≡ length (log_bytes (run (rounds_calls n) st))
  pub bytes : new ≡ written (rounds_calls n) st (overlaid (some st) old)

-- The rounds over a buffer, from the reply to opening. If the site is not opened: nothing is written, and 0 bytes are in use.
abbrev pub Rounds : Reply → ℕ → List ℕ → ℕ → List ℕ → Type 0
Rounds (refused q) n old r new = (r ≡ 0) × (new ≡ old)
Rounds (ok st a) n old r new = RoundsFrom st n old r new
