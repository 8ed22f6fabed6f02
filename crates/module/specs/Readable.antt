-- Which calls are readable: 1 comes before 14, for a slot that is not opened too.
use Rattle.std.specs.Prelude.{ℕ, ◌≤◌, ◌≡◌, refl, true, false, ◌&&◌, List, [], T, leb, Some}
use Rattle.std.specs.Prelude.{Option as Answer}
use Rattle.std.proofs.Common.{sym, ap, le-leb}
use Rattle.forms.specs.Decimal.{top, Step}
use Rattle.forms.specs.Decimal.Step.{got, bad}
use Rattle.forms.specs.Lists.{all}
use Rattle.forms.specs.ListLaws.{T_true, true_T, and_intro}
use Rattle.forms.specs.Forms.{Update, Did}
use Rattle.forms.specs.Read.{did_answer}
use Rattle.forms.specs.Reading.{read_did}
use Rattle.forms.specs.AnswerLaws.{did_said}
use Rattle.forms.specs.declared.DidLine.{DidLine}
use Rattle.forms.specs.declared.Refusal.TheVariants.{OutOfTurn}
use Rattle.rules.specs.Calls.{Call, writable, writable_update}
use Rattle.compact.specs.Module.{At, readable}
use Rattle.site.specs.Model.{Lent}
use Rattle.module.specs.Four.{true_false}
use Rattle.module.specs.declared.Module.{Module}
use Rattle.module.specs.declared.ModuleResult.{ModuleResult}
use Rattle.module.specs.Model.{slot_in, Moves}
use Rattle.module.specs.Calls.{Turns}
use Rattle.module.specs.CallLaws.{is_plain, number_in, turns, turned_away}

-- a call with a number that can be written, for a slot that is not opened
pub readable_plain : (c : Call) → is_plain c ≡ true → number_in c ≤ top → readable c ≡ true
unfolding readable writable
readable_plain (Call.Add n us) e le = absurd (true_false (sym e))
readable_plain (Call.Finish n) e le = le-leb n top le
readable_plain (Call.Withdraw n) e le = le-leb n top le
readable_plain (Call.Persistent n) e le = le-leb n top le
readable_plain (Call.Stable n) e le = le-leb n top le
readable_plain (Call.Show h) e le = le-leb h top le
readable_plain (Call.Cut k room) e le = absurd (true_false (sym e))
readable_plain (Call.Changeover n room) e le = absurd (true_false (sym e))
readable_plain (Call.Redo line) e le = absurd (true_false (sym e))
readable_plain Call.End e le = refl

-- .. is refused 14
pub turns_plain : (m : Module) (i : ℕ) (c : Call) (old : Lent) (r : ModuleResult) → is_plain c ≡ true → number_in c ≤ top →
    (slot_in m.slots i).opened ≡ false → Turns m OutOfTurn r → Moves m (At i c) old r old
turns_plain m i c old r plain le off t =
    turns m (At i c) old OutOfTurn r t (λ b v. turned_away m.slots b v i c off (readable_plain c plain le))

pub readable-cut : (k room : ℕ) → k ≤ top → readable (Call.Cut k room) ≡ true
unfolding readable writable
readable-cut k room le = le-leb k top le

pub readable-add : (n : ℕ) (us : List Update) → n ≤ top → T (all writable_update us) → readable (Call.Add n us) ≡ true
unfolding readable writable
readable-add n us le w = T_true (leb n top && all writable_update us)
    (and_intro (leb n top) (all writable_update us) (true_T (leb n top) (le-leb n top le)) w)

pub readable-redo : (line : List ℕ) (d : Did) (rest : List ℕ) → read_did line ≡ got d rest → readable (Call.Redo line) ≡ true
unfolding readable
readable-redo line d rest e = ap (λ (x : Step Did). elim x [ got d rest ↦ true | bad ↦ false ]) e

pub readable_said : (line : List ℕ) (r : Answer DidLine) (x : DidLine) → r ≡ did_answer (read_did line) → r ≡ Some x →
    readable (Call.Redo line) ≡ true
readable_said line r x e on = let d = did_said line r e on in readable-redo line d.d [] d.read

pub unreadable_redo : (line : List ℕ) → read_did line ≡ bad → readable (Call.Redo line) ≡ false
unfolding readable
unreadable_redo line e = ap (λ (x : Step Did). elim x [ got d rest ↦ true | bad ↦ false ]) e
