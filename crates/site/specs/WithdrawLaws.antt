-- Withdraw against the specification.
use Rattle.std.specs.Prelude.{ℕ, suc, ◌+◌, ◌≤◌, ◌<◌, ◌≡◌, Bool, true, false, ◌&&◌, length, take, drop, Some, None}
use native.Mathlib.Omega.{arith}
use Rattle.std.proofs.Math.Path.{refl, ap, subst}
use Rattle.std.proofs.Common.{sym, ◌∙◌}
use mathlib.Core.List.Memᴰ
use mathlib.Core.List.{List, [], ◌∷◌, ◌++◌}
use mathlib.Core.List.{Memᴰ as Mem}
use Rattle.std.proofs.Math.ListN.{get_or}
use Rattle.std.proofs.Math.Seq.{split_at}
use borrow.Author.Tests.{le-leb, eqb-true}
use Rattle.forms.specs.Decimal.{top}
use Rattle.forms.specs.Lists.{keep, below, sum}
use Rattle.forms.specs.ListLaws.{Nodup, nodup_right, mem-at, mem_along}
use Rattle.forms.specs.Forms.{Withdrawn}
use Rattle.forms.specs.Held.{outcome_with, Numbers, listed}
use Rattle.forms.specs.Limits.{history_limit}
use Rattle.forms.specs.declared.ReplyForm.{ReplyForm}
use Rattle.forms.specs.declared.Refusal.TheVariants.{WrongState, OutOfTurn}
use Rattle.rules.specs.Checks.{check}
use Rattle.rules.specs.Poll.{busy}
use Rattle.rule_laws.specs.PollLaws.{busy_withdrawn}
use Rattle.rules.specs.State.{Operation, State, refused, ok, live_done, became_dry, with_pending}
use Rattle.rules.specs.Calls.{Call, unless, writable, perform, step, without, withdraw_refusal, withdraw}
use Rattle.rule_laws.specs.Good.{operation_ids, did_ids}
use Rattle.table.specs.Lists.{first_at}
use Rattle.table.specs.declared.versions.Naming.TheVariants.{Dried}
use Rattle.table.specs.Arrays.{singled}
use Rattle.table.specs.RangeLaws.{past_entry}
use Rattle.table.specs.Tables.{is_entry}
use Rattle.table.specs.Tries.{operations_of}
use Rattle.table.specs.FindLaws.{first_found, any-future, no_future, without_is}
use Rattle.table.specs.BookLaws.{dried_is}
use Rattle.history.specs.declared.Entry.{Entry}
use Rattle.history.specs.Entries.{operation_of, UsableEntry, InFirst}
use Rattle.history.specs.Words.{entry_in}
use Rattle.history.specs.BusyLaws.{items-asked, all_in_first}
use Rattle.history.specs.AtLog.{asked-first}
use Rattle.site.specs.Representation.{Representation, state_of, pending_in, waiting_in, Sound}
use Rattle.site.specs.ModelLaws.{AcceptsCall, step_performs, accepts-step, says_lists, Means, means_is, means_none}
use Rattle.site.specs.QueueLaws.{with_queue, carries_queue}
use Rattle.site.specs.MarkLaws.{marks_ordered}

withdraw_performs : (i : ℕ) (st : State) → i ≤ top → step (Call.Withdraw i) st ≡ withdraw i st
unfolding writable perform
withdraw_performs i st le = step_performs (Call.Withdraw i) st (le-leb i top le)

pub withdraw_refused_turn : (s : Representation) (bytes : List ℕ) (i : ℕ) → i ≤ top → s.restoring ≡ true →
    step (Call.Withdraw i) (state_of s bytes) ≡ refused OutOfTurn
unfolding withdraw withdraw_refusal check unless
withdraw_refused_turn s bytes i le e = withdraw_performs i (state_of s bytes) le ∙ rw e refl

pub withdraw_refused_state : (s : Representation) (bytes : List ℕ) (i : ℕ) → i ≤ top → s.restoring ≡ false →
    first_at (is_entry i false) s.queue ≡ None →
    step (Call.Withdraw i) (state_of s bytes) ≡ refused WrongState
unfolding withdraw withdraw_refusal check unless
withdraw_refused_state s bytes i le e nothing = withdraw_performs i (state_of s bytes) le ∙ rw (e, no_future i s.queue nothing) refl

-- the state after it
abbrev pub withdrawn_from : ℕ → Representation → List ℕ → State
withdrawn_from i s bytes = with_pending (without i (pending_in s.restoring s)) (state_of s bytes)

withdraw_accepted : (s : Representation) (bytes : List ℕ) (i k : ℕ) → i ≤ top → s.restoring ≡ false →
    first_at (is_entry i false) s.queue ≡ Some k →
    step (Call.Withdraw i) (state_of s bytes) ≡ ok (withdrawn_from i s bytes)
    (Withdrawn (became_dry (state_of s bytes) (withdrawn_from i s bytes)))
unfolding withdraw withdraw_refusal check unless
withdraw_accepted s bytes i k le e found = withdraw_performs i (state_of s bytes) le ∙ rw (e, any-future i s.queue k found) refl

-- An entry that was found is one of those looked at.
pub found_below : (q : List Entry) (i : ℕ) (running : Bool) (k : ℕ) → first_at (is_entry i running) q ≡ Some k → k < length q
found_below q i running k found = (first_found (is_entry i running) past_entry q k found).lt

and_first : (a b : Bool) → (a && b) ≡ true → a ≡ true
and_first true b e = refl
and_first false b e = e

-- The operation that was found.
module _ (s : Representation) (bytes : List ℕ) (i k : ℕ) (v : Sound s bytes) (e : s.restoring ≡ false)
    (found : first_at (is_entry i false) s.queue ≡ Some k) (entry : Entry) (read : entry ≡ get_or s.queue k past_entry) where
  abbrev operation : Operation
  operation = operation_of entry

  -- it is one of those pending
  is_pending : Mem operation (state_of s bytes).pending
  is_pending =
      subst (λ (r : Bool). Mem operation (pending_in r s)) (sym e)
      (subst (λ (x : Entry). Mem (operation_of x) (operations_of s.queue)) (sym read)
      (Memᴰ.map operation_of
      (mem_along (sym (split_at s.queue k past_entry (found_below s.queue i false k found)))
      (mem-at (get_or s.queue k past_entry) (take k s.queue) (drop (suc k) s.queue)))))

  is_named : operation.id ≡ i
  unfolding is_entry operation_of
  is_named =
      ap (λ (x : Entry). x.id) read
      ∙ eqb-true (get_or s.queue k past_entry).id i
      (and_first _ _ (first_found (is_entry i false) past_entry s.queue k found).hit)

  -- its updates are counted, fewer after it
  lowered : (h : ℕ) → busy (withdrawn_from i s bytes) h + entry_in h entry ≡ busy (state_of s bytes) h
  unfolding Sound
  lowered h =
      let w : busy (withdrawn_from operation.id s bytes) h ≡ busy (withdrawn_from i s bytes) h =
      ap (λ (n : ℕ). busy (withdrawn_from n s bytes) h) is_named
      in
      omega (arith, w, busy_withdrawn (state_of s bytes) operation h v.good is_pending, items-asked h entry)

  module _ (usable : UsableEntry entry) where
    -- its histories are those of the site
    pub withdraw-first : InFirst s.count entry
    unfolding Sound
    withdraw-first = asked-first s.count entry usable (v.good.pending_formed operation is_pending).passes

    pub withdraw-counts : (h : ℕ) → 1 ≤ entry_in h entry → entry_in h entry ≤ get_or s.busy h 0
    unfolding Sound
    withdraw-counts h some =
        let lt : h < s.count = all_in_first s.count entry withdraw-first h (omega (arith, some)) in
        omega (arith, v.carries.busy h lt, lowered h)

module _ (s : Representation) (bytes : List ℕ) (i k : ℕ) (v : Sound s bytes) (le : i ≤ top) (e : s.restoring ≡ false)
    (found : first_at (is_entry i false) s.queue ≡ Some k) (entry : Entry) (read : entry ≡ get_or s.queue k past_entry)
    (left : List Entry) (before after : List ℕ) (a : Numbers) (ys : List ℕ)
    (removed : left ≡ take k s.queue ++ drop (k + 1) s.queue)
    (was : before ≡ s.busy)
    (counts : (h : ℕ) → h < history_limit → get_or s.busy h 0 ≡ get_or after h 0 + sum (entry_in h) (entry ∷ []))
    (dried : Means a (keep (singled Dried before after) (below s.count))) where
  -- the ids of the operations are distinct
  once : Nodup (operation_ids (operations_of s.queue))
  unfolding Sound
  once =
      subst (λ (r : Bool). Nodup (operation_ids (pending_in r s))) e
      (nodup_right (did_ids (state_of s bytes).waiting) _ (nodup_right (did_ids (live_done (state_of s bytes))) _ v.good.ids))

  -- the queue that is left has the operations without that one
  left_is : operations_of left ≡ without i (operations_of s.queue)
  left_is = ap operations_of removed ∙ sym (without_is i false s.queue k once found)

  -- the numbers before it, and after it
  numbers-before : (h : ℕ) → h < s.count → get_or before h 0 ≡ busy (state_of s bytes) h
  unfolding Sound
  numbers-before h lt = ap (λ (r : List ℕ). get_or r h 0) was ∙ v.carries.busy h lt

  numbers_after : (h : ℕ) → h < s.count → get_or after h 0 ≡ busy (withdrawn_from i s bytes) h
  unfolding Sound
  numbers_after h lt =
      omega (
        arith,
        v.carries.busy h lt,
        lowered s bytes i k v e found entry read h,
        counts h (omega (arith, lt, (marks_ordered s bytes v).few)),
      )

  pub withdraw_does : AcceptsCall bytes (step (Call.Withdraw i) (state_of s bytes))
      (record {
        site = with_queue left s.restoring s.reserved after s;
        reply = record { form = ReplyForm.Withdrawn; first = a; second = listed 0 ys };
      }) bytes
  unfolding Sound outcome_with
  withdraw_does =
      accepts-step s bytes (Call.Withdraw i) (withdrawn_from i s bytes)
      (Withdrawn (became_dry (state_of s bytes) (withdrawn_from i s bytes))) _ bytes v
      (withdraw_accepted s bytes i k le e found)
      (says_lists _ (became_dry (state_of s bytes) (withdrawn_from i s bytes)) []
      (means_is dried (dried_is before after (state_of s bytes) (withdrawn_from i s bytes) numbers-before numbers_after))
      (means_none ys) tt)
      (carries_queue s bytes (state_of s bytes) v.carries left s.restoring s.reserved after
      (without i (pending_in s.restoring s)) (waiting_in s.restoring s)
      (rw e left_is) (rw e refl) v.carries.reserved numbers_after)
      refl
