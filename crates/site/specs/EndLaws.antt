-- End against the specification.
use Rattle.std.specs.Prelude.{ℕ, ◌+◌, ◌≡◌, refl, Bool, true, false, List, [], ◌∷◌, map}
use Rattle.std.proofs.Common.{ap, ◌∙◌}
use Rattle.forms.specs.Lists.{sum}
use Rattle.forms.specs.Held.{outcome_with, Numbers, listed}
use Rattle.forms.specs.Forms.{Did, Ended}
use Rattle.forms.specs.declared.ReplyForm.{ReplyForm}
use Rattle.forms.specs.declared.Refusal.TheVariants.{OutOfTurn}
use Rattle.rules.specs.Checks.{check}
use Rattle.rules.specs.Poll.{asks_in, changes_in, volatile, busy}
use Rattle.rules.specs.State.{refused, ok}
use Rattle.rules.specs.Calls.{Call, unless, writable, perform, step, end}
use Rattle.history.specs.declared.Entry.{Entry}
use Rattle.history.specs.Entries.{did_of_entry, operation_of}
use Rattle.table.specs.Tables.{id_of}
use Rattle.site.specs.Representation.{Representation, state_of, pending_in, Sound}
use Rattle.site.specs.ModelLaws.{AcceptsCall, step_performs, accepts-step, says_lists, Means, means_none}
use Rattle.site.specs.QueueLaws.{with_queue, with_open, carries_queue}

pub end_refused : (s : Representation) (bytes : List ℕ) → s.restoring ≡ false → step Call.End (state_of s bytes) ≡ refused OutOfTurn
unfolding writable perform end check unless
end_refused s bytes e = step_performs Call.End (state_of s bytes) refl ∙ rw e refl

-- the ids of the lines that wait
dids-ids : (es : List Entry) → map (λ (d : Did). d.id) (map did_of_entry es) ≡ map id_of es
unfolding did_of_entry
dids-ids [] = refl
dids-ids (e ∷ es) = ap (λ (l : List ℕ). e.id ∷ l) (dids-ids es)

pub end_accepted : (s : Representation) (bytes : List ℕ) → s.restoring ≡ true →
    step Call.End (state_of s bytes) ≡ ok (with_open [] [] false (state_of s bytes)) (Ended (map id_of s.queue))
unfolding writable perform end check unless
end_accepted s bytes e =
    step_performs Call.End (state_of s bytes) refl
    ∙ rw e (ap (λ (l : List ℕ). ok (with_open [] [] false (state_of s bytes)) (Ended l)) (dids-ids s.queue))

-- lines that wait did not count
end-busy : (s : Representation) (bytes : List ℕ) → s.restoring ≡ true → (h : ℕ) →
    busy (state_of s bytes) h ≡ busy (with_open [] [] false (state_of s bytes)) h
unfolding busy
end-busy s bytes e h =
    ap (λ (b : Bool). sum (asks_in h) (pending_in b s) + sum (changes_in h) (volatile (state_of s bytes))) e

pub end_does : (s : Representation) (bytes : List ℕ) → Sound s bytes → s.restoring ≡ true → (q : List Entry) → q ≡ [] →
    (a : Numbers) (ys : List ℕ) →
    Means a (map id_of s.queue) →
    AcceptsCall bytes (step Call.End (state_of s bytes))
    (record { site = with_queue q false 0 s.busy s; reply = record { form = ReplyForm.Ended; first = a; second = listed 0 ys } }) bytes
unfolding Sound outcome_with
end_does s bytes v e q empty a ys ids =
    accepts-step s bytes Call.End (with_open [] [] false (state_of s bytes)) (Ended (map id_of s.queue)) _ bytes v (end_accepted s bytes e)
    (says_lists _ (map id_of s.queue) [] ids (means_none ys) tt)
    (carries_queue s bytes (state_of s bytes) v.carries q false 0 s.busy [] [] (ap (map operation_of) empty) refl refl
    (λ h lt. v.carries.busy h lt ∙ end-busy s bytes e h))
    refl
