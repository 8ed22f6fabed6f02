-- Request (n) of document 02, "One paper, any order of arrival": its words, each with the paper's sentence, and then the claim. It is
-- proved in ArrivalLaws, and not empty by ArrivalInstance.
--
-- "It is to hold for logs trimmed before the cut": a list may start at a restart from a log with a base line (`Start`), and have
-- changeovers among its first calls. "With further cuts between": they stand in `further` (`cuts` of `Asked`). "For the compact module":
-- the same words over a site that does not stand alone are in Host, and over a slot of the module in the crate compact. Of the code's own
-- calls and the bytes of its log it is stated in the crate end_to_end.
use Rattle.std.specs.Prelude.{◌≡◌, refl, ◌↔◌, Bool, true, ℕ, suc, T, length}
use Rattle.std.proofs.Common.{ap, ◌∙◌, arith}
use mathlib.Core.List.Permᴰ.{cons as perm-cons}
use mathlib.Core.List.Permᴰ.{nil as perm-nil}
use mathlib.Core.List.{List, [], ◌∷◌, ◌++◌, Permᴰ as Perm}
use mathlib.Core.List.Permᴰ.{swap as perm-swap}
use mathlib.Core.List.Permᴰ.{trans as perm-trans}
use Rattle.forms.specs.Lists.{keep}
use Rattle.forms.specs.Forms.{Did}
use Rattle.rules.specs.Book.{touches}
use Rattle.rules.specs.Log.{dids, Journal, journal, no_journal, read_log}
use Rattle.rules.specs.State.{State}
use Rattle.rules.specs.Calls.{Call, Cut}
use Rattle.rules.specs.Run.{run}
use Rattle.recovery.specs.Claim.{Start, counted, Fair, lost_by, shares, Asked}

-- ### Two logs

-- "the did lines of the final logs": of the bytes of a log, those that restart reads; none where they are no log.
abbrev pub dids_of : Journal → List Did
dids_of (journal n base lines) = dids lines
dids_of no_journal = []

unfoldable pub did_lines : List ℕ → List Did
did_lines bytes = dids_of (read_log bytes)

-- "are rearrangements of each other": the same lines, each as often.
abbrev pub Rearranged : List Did → List Did → Type 0
Rearranged a b = Perm a b

-- "each as often": a line that stands twice is no rearrangement of the same line once, though the lines are the same as a set.
pub twice : (d : Did) → Rearranged (d ∷ d ∷ []) (d ∷ []) → ⊥
twice d p = let e : ◌≡◌ {A = ℕ} 2 1 = same_length p in omega (arith, e)
  where
    same_length : {a b : List Did} → Perm a b → length a ≡ length b
    same_length perm-nil = refl
    same_length (perm-cons e p) = ap suc (same_length p)
    same_length (perm-swap e f) = refl
    same_length (perm-trans p q) = same_length p ∙ same_length q

-- The lines of a log in history h, in their order.
abbrev pub history_lines : ℕ → List Did → List Did
history_lines h log = keep (touches h) log

-- d stands before e in a log, however far.
abbrev pub StandsBefore : List Did → Did → Did → Type 0
StandsBefore log d e = (a : List Did) × (b : List Did) × (c : List Did) × (log ≡ a ++ d ∷ (b ++ e ∷ c))

-- "are rearrangements of each other .. and lines that share a history stand in the same order"
pub record SameWork (a b : List Did) : Type 0 where
  pub rearranged : Rearranged a b
  pub same_order : (d e : Did) → T (shares d e) → StandsBefore a d e ↔ StandsBefore b d e
  -- the same said of whole histories: each has the same list of lines
  pub same_in : (h : ℕ) → history_lines h a ≡ history_lines h b

-- ### A delivery of all lost lines

-- "orders of delivery of all lost lines after .. cuts": every lost line is chosen.
abbrev pub every : Did → Bool
every d = true

-- "The conditions are those of the recovery promise": a list of calls, the picked cut, further calls, "with further cuts between".
pub record Delivery : Type 0 where
  pub counts : ℕ
  pub site : State
  pub start : Start counts site
  pub calls : List Call
  pub kept : ℕ
  pub room : ℕ
  pub further : List Call
  pub after : State
  pub fair : Fair (counted counts calls site) kept room (run calls site) after
  pub asked : Asked counts site (λ a. calls ++ Cut kept room ∷ a) further (lost_by (run calls site) after) every

-- "the log before the cut": the did lines of the log that was held then, behind its base line if it has one
abbrev pub log_before : Delivery → List Did
log_before D = (run D.calls D.site).log

-- "the final log", at the list's end
abbrev pub log_at_end : Delivery → List Did
log_at_end D = (run (D.calls ++ Cut D.kept D.room ∷ D.further) D.site).log

-- ### The claim

-- One delivery: the final log is "the log before the cut" but for the order of lines that share no history.
abbrev pub ArrivalClaim : Type 0
ArrivalClaim = (D : Delivery) → SameWork (log_before D) (log_at_end D)

-- "For any two orders of delivery of all lost lines after equal cuts, the did lines of the final logs are rearrangements of each other and
-- of the log before the cut, and lines that share a history stand in the same order in all three."
-- Of the cuts only the logs before them need to be equal; what they kept, their buffers, refused calls, repeats and further cuts may
-- differ.
pub record AllThree (first one other : List Did) : Type 0 where
  pub one_other : SameWork one other
  pub first_one : SameWork first one
  pub first_other : SameWork first other

abbrev pub OrdersClaim : Type 0
OrdersClaim = (D E : Delivery) → log_before D ≡ log_before E → AllThree (log_before D) (log_at_end D) (log_at_end E)
