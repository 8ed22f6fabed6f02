-- Laws of a site that may use n entries. With 64 it is a site of 01: then 10 is 01's own test, and no cut or restart meets it.
use Rattle.std.specs.Prelude.{◌≡◌, refl, Bool, true, false, not, ◌||◌, List, ℕ, ◌≤◌, leb}
use Rattle.std.proofs.Common.{sym, ap, ◌∙◌, le-ltb}
use Rattle.std.proofs.Math.Option.{Option, none}
use Rattle.forms.specs.Decimal.{Step}
use Rattle.forms.specs.Decimal.Step.{got, bad}
use Rattle.forms.specs.Limits.{live_limit}
use Rattle.forms.specs.Forms.{Update, Did, Answer}
use Rattle.forms.specs.Reading.{read_did}
use Rattle.forms.specs.declared.Refusal.{Refusal}
use Rattle.forms.specs.declared.Refusal.TheVariants.{Unreadable, TableFull, NoRoom}
use Rattle.rules.specs.Checks.{check}
use Rattle.rules.specs.State.{State, Reply, refused, ok, live, settle}
use Rattle.rules.specs.Calls.{unless, table_full, add_refusal_when, add_refusal, added, add, restart, log_full, redo_refusal_when}
use Rattle.rules.specs.Calls.{redo_refusal}
use Rattle.rules.specs.Calls.{delivered, redo_read, redo, writable, perform, step}
use Rattle.rules.specs.Calls.{Call, Add, Finish, Withdraw, Persistent, Stable, Show, Cut, Changeover, Redo, End}
use Rattle.rule_laws.specs.CheckLaws.{unless-check}
use Rattle.rules.specs.When.{add_when, redo_read_when, redo_when, lastly, perform_when, step_when}
use Rattle.rule_laws.specs.WhenLaws.{step_off, good_when, when_ok, add_before, redo_before}
use Rattle.rule_laws.specs.WhenExactly.{cut_when_lem, changeover_when_lem}
use Rattle.rules.specs.Within.{uses_all, keeps_more, ten_within, step_within, reply_within, restart_within}
use Rattle.rule_laws.specs.Good.{Good}
use Rattle.rule_laws.specs.StartLaws.{good-restart, good-cut, good-changeover}

-- A call that takes no entries is that of 01.
pub within_plain : (n : ℕ) (c : Call) (st : State) → ten_within n c st ≡ false → step_within n c st ≡ step c st
unfolding step_within
within_plain n c st e = ap (λ (b : Bool). step_when b c st) e ∙ sym (step_off c st)

-- An accepted call is that of 01, and a call keeps the invariant.
pub within_ok : (n : ℕ) (c : Call) (st after : State) (a : Answer) → step_within n c st ≡ ok after a → step c st ≡ ok after a
unfolding step_within
within_ok n c st after a e = when_ok (ten_within n c st) c st after a e

pub good-within : (n : ℕ) (c : Call) (st : State) → Good st → Good (settle (step_within n c st) st)
unfolding step_within
good-within n c st G = good_when (ten_within n c st) c st G

-- ### 64 entries

-- a test that is asked twice
twice : (b : Bool) → b || b ≡ false || b
twice true = refl
twice false = refl

-- an add and a redo of a did line, with 10 where 64 are live
pub add-own : (i : ℕ) (us : List Update) (st : State) → add_refusal_when (uses_all live_limit st) i us st ≡ add_refusal i us st
unfolding add_refusal table_full
add-own i us st = ap (λ (b : Bool). add_before i us st (check b TableFull none)) (twice (leb live_limit (live st)))

pub redo-own : (d : Did) (st : State) → redo_refusal_when (uses_all live_limit st) d st ≡ redo_refusal d st
unfolding redo_refusal table_full
redo-own d st =
    ap (λ (b : Bool). redo_before d st (check b TableFull (check (log_full d st) NoRoom none))) (twice (leb live_limit (live st)))

read_own : (x : Step Did) (st : State) → redo_read_when (uses_all live_limit st) x st ≡ redo_read x st
unfolding redo_read_when redo_read
read_own bad st = refl
read_own (got d rest) st = ap (λ (o : Option Refusal). unless o (delivered d st)) (redo-own d st)

-- A cut or restart that keeps no more than 64 live is not refused 10.
pub few_kept : (n : ℕ) (x : Reply) → ((after : State) (a : Answer) → x ≡ ok after a → live after ≤ n) → reply_within n x ≡ x
unfolding lastly unless check
few_kept n (refused r) few = refl
few_kept n (ok after a) few = ap (λ (b : Bool). unless (check b TableFull none) (ok after a)) (le-ltb n (live after) (few after a refl))

pub restart-own : (buffer : List ℕ) (k : ℕ) → restart_within live_limit buffer k ≡ restart buffer k
restart-own buffer k = few_kept live_limit (restart buffer k) (λ after a e. (good-restart buffer k after a e).few)

-- what a call that is accepted does
accepted : (c : Call) (st after : State) (a : Answer) → step c st ≡ ok after a → perform c st ≡ ok after a
unfolding step
accepted c st after a e = (unless-check _ Unreadable _ after a e).1

add_step : (i : ℕ) (us : List Update) (st : State) → step_when (uses_all live_limit st) (Add i us) st ≡ step (Add i us) st
unfolding step_when perform_when add_when step perform add
add_step i us st =
    ap (λ (o : Option Refusal). unless (check (not (writable (Add i us))) Unreadable none) (unless o (added i us st))) (add-own i us st)

redo-step : (line : List ℕ) (st : State) → step_when (uses_all live_limit st) (Redo line) st ≡ step (Redo line) st
unfolding step_when perform_when redo_when step perform redo
redo-step line st = ap (unless (check (not (writable (Redo line))) Unreadable none)) (read_own (read_did line) st)

-- A site that may use 64 entries is a site of 01.
pub step-own : (c : Call) (st : State) → step_within live_limit c st ≡ step c st
unfolding step_within perform
step-own (Add i us) st = add_step i us st
step-own (Finish i) st = sym (step_off (Finish i) st)
step-own (Withdraw i) st = sym (step_off (Withdraw i) st)
step-own (Persistent i) st = sym (step_off (Persistent i) st)
step-own (Stable i) st = sym (step_off (Stable i) st)
step-own (Show h) st = sym (step_off (Show h) st)
step-own (Cut k room) st =
    cut_when_lem (keeps_more live_limit (step (Cut k room) st)) k room st
    ∙ few_kept live_limit (step (Cut k room) st) (λ after a e. (good-cut k room st after a (accepted (Cut k room) st after a e)).few)
step-own (Changeover n room) st =
    changeover_when_lem (keeps_more live_limit (step (Changeover n room) st)) n room st
    ∙ few_kept live_limit (step (Changeover n room) st)
    (λ after a e. (good-changeover n room st after a (accepted (Changeover n room) st after a e)).few)
step-own (Redo line) st = redo-step line st
step-own End st = sym (step_off End st)
