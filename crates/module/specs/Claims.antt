-- The claims of the compact module, of what its code has in memory: every slot's profiles return after a cut, whatever the neighbours'
-- calls are, and all lost lines in any order of arrival leave the same work.
use Rattle.std.specs.Prelude.{ℕ, ◌<◌, ◌≡◌, refl, Bool, List, [], ◌∷◌, ◌++◌}
use Rattle.std.proofs.Math.Path.{sym, ap}
use Rattle.std.proofs.Common.{subst, ◌∙◌}
use Rattle.std.proofs.Math.Option.{Option, some}
use Rattle.forms.specs.Forms.{Did, Shown, Accepted}
use Rattle.rules.specs.Book.{cell}
use Rattle.rules.specs.State.{State, start_of}
use Rattle.rules.specs.Calls.{Show, step}
use Rattle.rule_laws.specs.WhenLaws.{step_off}
use Rattle.recovery.specs.Claim.{lost_by, Recovered}
use Rattle.recovery.specs.Arrival.{every, SameWork, AllThree}
use Rattle.recovery.specs.Host.{run_in, came_in}
use Rattle.compact.specs.Module.{Module as ModuleState, slot_at, meets_ten, Move, At, reply_of, next_of, run_all}
use Rattle.compact.proofs.FitsLaws.{call_is}
use Rattle.compact.specs.Claim.{site_or, in_slot, SlotList, before_cut, at_end}
use Rattle.compact.proofs.ClaimLaws.{opened-all, slot_recovery, slot_arrival, slot_orders}
use Rattle.site.specs.Model.{Lent}
use Rattle.module.specs.declared.ModuleResult.{ModuleResult}
use Rattle.module.specs.Model.{Moves}
use Rattle.module.specs.Reached.{World, ValidWorld, state_of, lent_of, Execution, executes}
use Rattle.module.specs.Replies.{outcome_from, said_by, call_says}

pub run_slots : (i : ℕ) (xs : List Move) (m : ModuleState) → run_in (in_slot i) xs m ≡ run_all xs m
unfolding run_in run_all
run_slots i [] m = refl
run_slots i (x ∷ xs) m = run_slots i xs (next_of x m)

-- slot i's site, as the code has it
abbrev pub site_in : World → ℕ → State
site_in w i = site_or (slot_at i (state_of w)).site

module _ {u w : World} (valid : ValidWorld u) (i : ℕ) (chosen : Did → Bool) (l : SlotList i chosen) (starts : state_of u ≡ l.start)
    (calls : Execution u (l.xs ++ l.x ∷ l.ys) w) where
  final_is : run_in (in_slot i) (l.xs ++ l.x ∷ l.ys) l.start ≡ state_of w
  final_is =
      run_slots i (l.xs ++ l.x ∷ l.ys) l.start
      ∙ ap (run_all (l.xs ++ l.x ∷ l.ys)) (sym starts)
      ∙ sym (executes valid calls).state

  -- "So a module's neighbours can fill the rest and its profiles still return after a cut as before."
  pub module_recovers : Recovered (before_cut l) l.after (lost_by (before_cut l) l.after) chosen
      (came_in (in_slot i) [] (l.xs ++ l.x ∷ l.ys) l.start) (site_in w i)
  module_recovers =
      subst (λ (s : ModuleState). Recovered (before_cut l) l.after (lost_by (before_cut l) l.after) chosen
      (came_in (in_slot i) [] (l.xs ++ l.x ∷ l.ys) l.start) (site_or (slot_at i s).site))
      final_is (slot_recovery i chosen l)

module _ {u w : World} (valid : ValidWorld u) (i : ℕ) (l : SlotList i every) (starts : state_of u ≡ l.start)
    (calls : Execution u (l.xs ++ l.x ∷ l.ys) w) where
  -- (n), for a slot of the module
  pub module_arrives : SameWork (before_cut l).log (site_in w i).log
  module_arrives =
      subst (λ (s : ModuleState). SameWork (before_cut l).log (site_or (slot_at i s).site).log)
      (final_is valid i every l starts calls) (slot_arrival i l)

-- The marking line of a slot: after such a list the code's show of each history replies the version, place and profile of the book that is
-- fed the lines which the picked cut kept and the chosen lines whose traced lines are all chosen.
module _ {u w : World} (valid : ValidWorld u) (i : ℕ) (chosen : Did → Bool) (l : SlotList i chosen) (starts : state_of u ≡ l.start)
    (calls : Execution u (l.xs ++ l.x ∷ l.ys) w) where
  abbrev recovered : Recovered (before_cut l) l.after (lost_by (before_cut l) l.after) chosen
      (came_in (in_slot i) [] (l.xs ++ l.x ∷ l.ys) l.start) (site_in w i)
  recovered = module_recovers valid i chosen l starts calls

  still_open : (st : State) × ((slot_at i (state_of w)).site ≡ some st)
  still_open =
      subst (λ (m : ModuleState). (st : State) × ((slot_at i m).site ≡ some st)) (final_is valid i chosen l starts calls)
      (opened-all i (l.xs ++ l.x ∷ l.ys) l.start (l.site, l.is_open) l.on)

  show_is : (h : ℕ) → reply_of (At i (Show h)) (state_of w) ≡ step (Show h) (site_in w i)
  unfolding meets_ten
  show_is h =
      call_is i (state_of w) (executes valid calls).valid.fits still_open.0 still_open.1 (Show h)
      ∙ sym (step_off (Show h) still_open.0)
      ∙ ap (λ (o : Option State). step (Show h) (site_or o)) (sym still_open.1)

  pub module_marks : (h : ℕ) → h < (before_cut l).histories → (ns : List ℕ) (r : ModuleResult) (new : Lent) →
      Moves w.code (At i (Show h)) (lent_of w i ns) r new →
      (p : ℕ) × (s : ℕ) × (said_by r new ≡ Accepted (Shown h (cell (start_of l.after) h (l.after.log ++ recovered.fed)).version p s
      (cell (start_of l.after) h (l.after.log ++ recovered.fed)).place
      (cell (start_of l.after) h (l.after.log ++ recovered.fed)).profile))
  module_marks h lt ns r new D =
      let z = recovered.shows h lt in (
        z.0,
        z.1,
        call_says w (executes valid calls).valid (At i (Show h)) ns r new D ∙ ap outcome_from (show_is h ∙ z.2),
      )

-- (n), of two slots' deliveries of all lost lines, in whatever modules, after equal logs
module _ {u w : World} (valid : ValidWorld u) (i : ℕ) (l : SlotList i every) (starts : state_of u ≡ l.start)
    (calls : Execution u (l.xs ++ l.x ∷ l.ys) w) {u' w' : World} (valid' : ValidWorld u') (j : ℕ) (k : SlotList j every)
    (starts' : state_of u' ≡ k.start) (calls' : Execution u' (k.xs ++ k.x ∷ k.ys) w') where
  pub module_orders : (before_cut l).log ≡ (before_cut k).log → AllThree (before_cut l).log (site_in w i).log (site_in w' j).log
  module_orders same =
      subst (λ (m : ModuleState). AllThree (before_cut l).log (site_or (slot_at i m).site).log (site_in w' j).log)
      (final_is valid i every l starts calls)
      (subst (λ (m : ModuleState). AllThree (before_cut l).log (at_end l).log (site_or (slot_at j m).site).log)
      (final_is valid' j every k starts' calls') (slot_orders i j l k same))
