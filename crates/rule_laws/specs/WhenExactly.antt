-- Refusal 10 from outside the site: the last check of a cut, and "exactly when" it falls on an add or redo.
use Rattle.std.specs.Prelude.{◌≡◌, refl, ◌↔◌, Bool, true, false, not, ◌||◌, ℕ, T, take}
use Rattle.std.proofs.Common.{ap, ◌∙◌}
use Rattle.std.proofs.Math.Option.{Option, none, some}
use Rattle.forms.specs.Decimal.{Step}
use Rattle.forms.specs.Decimal.Step.{got, bad}
use Rattle.forms.specs.ListLaws.{true_T}
use Rattle.forms.specs.Forms.{Did}
use Rattle.forms.specs.Reading.{read_did}
use Rattle.forms.specs.declared.Refusal.{Refusal}
use Rattle.forms.specs.declared.Refusal.TheVariants.{Unreadable}
use Rattle.forms.specs.declared.Refusal.TheVariants.{TableFull, NoRoom}
use Rattle.rules.specs.Checks.{check}
use Rattle.rules.specs.Log.{read_log}
use Rattle.rules.specs.State.{State, Reply, refused, log_bytes}
use Rattle.rules.specs.Calls.{unless, table_full}
use Rattle.rules.specs.Calls.{log_full, added}
use Rattle.rules.specs.Calls.{restart_as, cut_refusal, cut, changeover, delivered, Call}
use Rattle.rules.specs.Trim.{trim_text, trim_refusal}
use Rattle.rules.specs.Calls.{Add, Finish, Withdraw, Persistent, Stable, Show, Cut, Changeover, Redo, End, writable, perform, step}
use Rattle.rules.specs.When.{add_when, redo_read_when, redo_when, lastly, cut_when, changeover_when, perform_when, step_when, meets}
use Rattle.rule_laws.specs.WhenLaws.{ten_why, add_before, redo_before}

-- ### "checked after 15"

unless-lastly : (o : Option Refusal) (full : Bool) (x : Reply) → unless o (lastly full x) ≡ lastly full (unless o x)
unfolding unless lastly
unless-lastly (some r) full x = refl
unless-lastly none full x = refl

-- The test of 10 from outside is the last of a cut: it asks those that the site alone accepts.
pub cut_when_lem : (full : Bool) (k room : ℕ) (st : State) → step_when full (Cut k room) st ≡ lastly full (step (Cut k room) st)
unfolding step step_when perform perform_when cut cut_when
cut_when_lem full k room st =
    ap (unless (check (not (writable (Cut k room))) Unreadable none))
    (unless-lastly (cut_refusal k room st) full (restart_as room (read_log (take k (log_bytes st)))))
    ∙ unless-lastly (check (not (writable (Cut k room))) Unreadable none) full (cut k room st)

-- So it is of a changeover.
pub changeover_when_lem : (full : Bool) (n room : ℕ) (st : State) →
    step_when full (Changeover n room) st ≡ lastly full (step (Changeover n room) st)
unfolding step step_when perform perform_when changeover changeover_when
changeover_when_lem full n room st =
    ap (unless (check (not (writable (Changeover n room))) Unreadable none))
    (unless-lastly (trim_refusal n room st) full (restart_as room (read_log (trim_text n st))))
    ∙ unless-lastly (check (not (writable (Changeover n room))) Unreadable none) full (changeover n room st)

-- One that the site alone refuses is refused with the same number, whatever the flag.
pub cut_refused : (full : Bool) (k room : ℕ) (st : State) (r : Refusal) → step (Cut k room) st ≡ refused r →
    step_when full (Cut k room) st ≡ refused r
unfolding lastly
cut_refused full k room st r e = cut_when_lem full k room st ∙ ap (lastly full) e

pub changeover_refused : (full : Bool) (n room : ℕ) (st : State) (r : Refusal) → step (Changeover n room) st ≡ refused r →
    step_when full (Changeover n room) st ≡ refused r
unfolding lastly
changeover_refused full n room st r e = changeover_when_lem full n room st ∙ ap (lastly full) e

-- ### "exactly when"

-- Nothing before 10 refuses the call: with the flag it is refused 10.
abbrev pub ComesToTen : Call → State → Type 0
ComesToTen c st = step_when true c st ≡ refused TableFull

-- the calls that take an entry
abbrev pub takes_entry : Call → Bool
takes_entry (Add i us) = true
takes_entry (Finish i) = false
takes_entry (Withdraw i) = false
takes_entry (Persistent n) = false
takes_entry (Stable n) = false
takes_entry (Show h) = false
takes_entry (Cut k room) = false
takes_entry (Changeover n room) = false
takes_entry (Redo line) = true
takes_entry End = false

full-same : (c : Call) (st : State) → takes_entry c ≡ true → table_full st ≡ true → step_when false c st ≡ step_when true c st
unfolding step_when perform_when add_when redo_when redo_read_when
full-same (Add i us) st t e =
    ap (λ (b : Bool). unless (check (not (writable (Add i us))) Unreadable none)
    (unless (add_before i us st (check b TableFull none)) (added i us st))) e
full-same (Finish i) st t e = refl
full-same (Withdraw i) st t e = refl
full-same (Persistent n) st t e = refl
full-same (Stable n) st t e = refl
full-same (Show h) st t e = refl
full-same (Cut k room) st t e = absurd (true_T false t)
full-same (Changeover n room) st t e = absurd (true_T false t)
full-same (Redo line) st t e = go (read_did line)
  where
    go : (x : Step Did) → unless (check (not (writable (Redo line))) Unreadable none) (redo_read_when false x st) ≡
        unless (check (not (writable (Redo line))) Unreadable none) (redo_read_when true x st)
    go bad = refl
    go (got d rest) =
        ap (λ (b : Bool). unless (check (not (writable (Redo line))) Unreadable none)
        (unless (redo_before d st (check b TableFull (check (log_full d st) NoRoom none))) (delivered d st))) e
full-same End st t e = refl

-- "An add or redo is refused 10 exactly when the site has 64, or" from outside.
pub entry_exactly : (full : Bool) (c : Call) (st : State) → takes_entry c ≡ true → ComesToTen c st →
    step_when full c st ≡ refused TableFull ↔ T (full || table_full st)
entry_exactly full c st t comes = (λ p. why c t (ten_why full c st p), λ q. back full (table_full st) refl q)
  where
    why : (c : Call) → takes_entry c ≡ true → T (meets full c st) → T (full || table_full st)
    why (Add i us) u q = q
    why (Finish i) u q = absurd q
    why (Withdraw i) u q = absurd q
    why (Persistent n) u q = absurd q
    why (Stable n) u q = absurd q
    why (Show h) u q = absurd q
    why (Cut k room) u q = absurd (true_T false u)
    why (Changeover n room) u q = absurd (true_T false u)
    why (Redo line) u q = q
    why End u q = absurd q

    back : (f b : Bool) → table_full st ≡ b → T (f || b) → step_when f c st ≡ refused TableFull
    back true b e q = comes
    back false true e q = full-same c st t e ∙ comes
    back false false e q = absurd q
