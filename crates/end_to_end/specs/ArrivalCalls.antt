-- Request (n) of document 02 of what the code's site does, by its contracts alone, and of the bytes of its log. Proved in
-- ArrivalCallsLaws.
use Rattle.std.specs.Prelude.{◌≡◌, List, ◌∷◌, ◌++◌, ℕ}
use Rattle.forms.specs.Forms.{Did}
use Rattle.rules.specs.Calls.{Call, Cut}
use Rattle.recovery.specs.Claim.{counted, Fair, lost_by, Asked}
use Rattle.recovery.specs.Arrival.{did_lines, every, SameWork, AllThree}
use Rattle.end_to_end.specs.SiteCalls.{Memory, state_in, log_in, Transition, Execution, StartsSite}

-- "The conditions are those of the recovery promise": calls that keep their contracts, from a site opened or restarted, changeovers among
-- them; the picked cut; and calls behind it that bring all lost lines, "with further cuts between".
pub record DeliveryIn : Type 0 where
  pub counts : ℕ
  pub start : Memory
  pub starts : StartsSite counts start
  pub calls : List Call
  pub before : Memory
  pub makes : Execution start calls before
  pub kept : ℕ
  pub room : ℕ
  pub after : Memory
  pub cuts : Transition before (Cut kept room) after
  pub further : List Call
  pub final : Memory
  pub resends : Execution after further final
  pub fair : Fair (counted counts calls (state_in start)) kept room (state_in before) (state_in after)
  pub asked : Asked counts (state_in start) (λ a. calls ++ Cut kept room ∷ a) further (lost_by (state_in before) (state_in after)) every

-- "the log before the cut", and "the final log": the did lines that stand in the bytes in use of the log buffer
abbrev pub lines_before : DeliveryIn → List Did
lines_before D = did_lines (log_in D.before)

abbrev pub lines_at_end : DeliveryIn → List Did
lines_at_end D = did_lines (log_in D.final)

-- One delivery.
abbrev pub SiteArrivalClaim : Type 0
SiteArrivalClaim = (D : DeliveryIn) → SameWork (lines_before D) (lines_at_end D)

-- "For any two orders of delivery of all lost lines after equal cuts .."
abbrev pub SiteOrdersClaim : Type 0
SiteOrdersClaim = (D E : DeliveryIn) → lines_before D ≡ lines_before E → AllThree (lines_before D) (lines_at_end D) (lines_at_end E)
