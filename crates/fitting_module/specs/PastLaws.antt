-- Slots above 3: no state looks at a log or at words of theirs, and a call that names one is refused.
use Rattle.std.specs.Prelude.{ℕ, ◌≤◌, ◌<◌, ◌≡◌, refl, Bool, true, false, List, [], ◌∷◌}
use Rattle.std.proofs.Common.{arith, sym, ap, subst}
use Rattle.std.proofs.Math.Option.{Option, none, some}
use Rattle.forms.specs.Decimal.{Step}
use Rattle.forms.specs.Decimal.Step.{got, bad}
use Rattle.forms.specs.Forms.{Command, SiteOf, Add, Finish, Withdraw, Persistent, Stable, Show, Cut, Redo, End, Update}
use Rattle.forms.specs.Forms.{did_text}
use Rattle.forms.specs.Reading.{read_command}
use Rattle.forms.specs.declared.Refusal.{Refusal}
use Rattle.forms.specs.declared.Refusal.TheVariants.{Unreadable, OutOfTurn}
use Rattle.rules.specs.State.{refused}
use Rattle.rules.specs.Calls.{Call}
use Rattle.compact.specs.Module.{Slot as SlotState, Move, readable, reply_of}
use Rattle.compact.specs.Fits.{Fits}
use Rattle.site.specs.Model.{Lent, lent, view, Valid}
use Rattle.module.specs.declared.Slot.{Slot}
use Rattle.module.specs.Parts.{part_of}
use Rattle.module.specs.Model.{slot_in, live_in, lent_at, site_if, view_at, view_in, Memory, ValidSlots}
use Rattle.module.specs.CallLaws.{past_last, turned_away, turned_unread}
use Rattle.module.specs.OpeningLaws.{open_past}
use Rattle.fitting_module.specs.Words.{Words, module_at}
use Rattle.fitting_module.specs.Model.{state_at, ValidWords}
use Rattle.fitting_module.specs.Lines.{move_of, move_in, line_move, line_reply}
use Rattle.fitting_module.specs.Calls.{add_move}

-- ### Other logs and words

-- what a slot is with what its site is lent
abbrev slot_with : Slot → Lent → SlotState
slot_with s m = record { site = site_if s.opened (view s.site m); promise = s.promise }

module _ (l : List Slot) (b : Memory) (logs books : ℕ → List ℕ) (e : (j : ℕ) → j < 4 → b.logs j ≡ logs j)
    (f : (j : ℕ) → j < 4 → b.books j ≡ books j) where
  abbrev other : Memory
  other = record { rows = b.rows; numbers = b.numbers; logs = logs; books = books }

  lent_same : (j : ℕ) → j < 4 → lent_at l b j ≡ lent_at l other j
  lent_same j lt = λ t. lent (e j lt t) b.rows (part_of j (live_in l j) b.numbers) (f j lt t) []

  at_same : (j : ℕ) → j < 4 → view_at l b j ≡ view_at l other j
  at_same j lt = ap (slot_with (slot_in l j)) (lent_same j lt)

  pub view-same : view_in l b ≡ view_in l other
  view-same = λ t. at_same 0 (omega arith) t ∷ at_same 1 (omega arith) t ∷ at_same 2 (omega arith) t ∷ at_same 3 (omega arith) t ∷ []

  pub valid_same : ValidSlots l b → ValidSlots l other
  valid_same v =
      record {
        size = v.size;
        rows = v.rows;
        shared = v.shared;
        few = v.few;
        each = λ j lt on. subst (λ (m : Lent). Valid (slot_in l j).site m) (lent_same j lt) (v.each j lt on);
        none = v.none;
        fits = subst Fits view-same v.fits;
      }

-- ### What is asked of a slot

-- A call of slot i but a restart, or none.
pub data Asks (i : ℕ) : Option Move → Type 0 where
  unread : Asks i none
  called : (c : Call) → Asks i (some (Move.At i c))
  opens : (n room : ℕ) → Asks i (some (Move.Open i n room))

command-asks : (i room : ℕ) (c : Command) → Asks i (some (move_of i room c))
command-asks i room (SiteOf n) = opens n room
command-asks i room (Add id us) = called (Call.Add id us)
command-asks i room (Finish id) = called (Call.Finish id)
command-asks i room (Withdraw id) = called (Call.Withdraw id)
command-asks i room (Persistent n) = called (Call.Persistent n)
command-asks i room (Stable n) = called (Call.Stable n)
command-asks i room (Show h) = called (Call.Show h)
command-asks i room (Cut k) = called (Call.Cut k room)
command-asks i room (Redo d) = called (Call.Redo (did_text d))
command-asks i room End = called Call.End

-- a line
pub line-asks : (i room : ℕ) (text : List ℕ) → Asks i (line_move i room text)
unfolding line_move
line-asks i room text = go (read_command text)
  where
    go : (x : Step Command) → Asks i (move_in i room x)
    go (got c rest) = command-asks i room c
    go bad = unread

-- an add
pub add-asks : (b : Bool) (i id : ℕ) (us : List Update) → Asks i (add_move b i id us)
add-asks true i id us = called (Call.Add id us)
add-asks false i id us = unread

-- Of a slot above 3 it is refused.
pub past_refused : (ws : Words) (b : Memory) (i : ℕ) {x : Option Move} → ValidWords ws b → Asks i x → 4 ≤ i →
    (q : Refusal) × (line_reply x (state_at ws b) ≡ refused q)
unfolding line_reply
past_refused ws b i v unread past = (Unreadable, refl)
past_refused ws b i v (called c) past = go (readable c) refl
  where
    off : (slot_in (module_at ws).slots i).opened ≡ false
    off = sym (past_last (module_at ws).slots i refl past)

    go : (t : Bool) → readable c ≡ t → (q : Refusal) × (reply_of (Move.At i c) (state_at ws b) ≡ refused q)
    go true e = (OutOfTurn, turned_away (module_at ws).slots b v.valid i c off e)
    go false e = (Unreadable, turned_unread (module_at ws).slots b v.valid i c off e)
past_refused ws b i v (opens n room) past = (OutOfTurn, open_past (module_at ws).slots b v.valid i n room past)
