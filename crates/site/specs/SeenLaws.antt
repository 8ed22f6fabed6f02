-- Laws of the checks that an add and a redo share: what is read of a valid site is so in its state_of, and a verdict is that of the
-- specification.
use Rattle.std.specs.Prelude.{ℕ, ◌+◌, ◌≤◌, ◌≡◌, Bool, true, false, ◌||◌, List, map, leb, eqb, length, Result, Ok, Err}
use Rattle.std.proofs.Common.{arith, sym, ap, ◌∙◌, leb-false}
use Rattle.std.proofs.Math.Path.{refl}
use Rattle.std.proofs.Math.Option.{Option, none, some}
use Rattle.std.proofs.lemmas.Bool.{lt-leb}
use Rattle.std.proofs.lemmas.List.{length-map}
use Rattle.forms.specs.Lists.{any}
use Rattle.forms.specs.Forms.{Did}
use Rattle.forms.specs.Limits.{live_limit}
use Rattle.forms.specs.declared.Refusal.{Refusal}
use Rattle.forms.specs.declared.Refusal.TheVariants.{OutOfTurn}
use Rattle.rules.specs.Checks.{check, and_then}
use Rattle.rules.specs.State.{Operation, State, live_done, live}
use Rattle.rules.specs.Calls.{id_pending, id_done, table_full}
use Rattle.rules.specs.Within.{uses_all}
use Rattle.history.specs.Asking.{verdict_of}
use Rattle.history.specs.Entries.{operation_of, did_of_entry}
use Rattle.table.specs.FindLaws.{has-operation, has-line}
use Rattle.table.specs.Tables.{has_id, finished_rows, queue_rows}
use Rattle.site.specs.Representation.{Representation, state_of, pending_in, waiting_in, Carries, Sound}
use Rattle.site.specs.declared.Site.{Site}
use Rattle.site.specs.Model.{Lent, represented, Valid}
use Rattle.site.specs.TableLaws.{live-length}
use Rattle.site.specs.CheckInputs.{Sees, SeesAll}

-- ### The table

or_nothing : (b : Bool) → (b || false) ≡ b
or_nothing true = refl
or_nothing false = refl

-- 7: the queue has an entry with this id
pub id_pending_lem : (s : Representation) (bytes : List ℕ) (i : ℕ) → any (has_id i) s.queue ≡ id_pending i (state_of s bytes)
unfolding id_pending
id_pending_lem s bytes i = go s.restoring
  where
    go : (b : Bool) → any (has_id i) s.queue
        ≡ (any (λ (x : Operation). eqb x.id i) (pending_in b s) || any (λ (d : Did). eqb d.id i) (waiting_in b s))
    go true = has-line i s.queue
    go false = has-operation i s.queue ∙ sym (or_nothing (any (λ (x : Operation). eqb x.id i) (map operation_of s.queue)))

-- 8: a done operation that is live has this id
pub id_done_lem : (s : Representation) (bytes : List ℕ) (st : State) → Carries s bytes st → (i : ℕ) → any (has_id i) s.finished ≡ id_done i st
unfolding id_done
id_done_lem s bytes st c i = has-line i s.finished ∙ ap (any (λ (d : Did). eqb d.id i)) c.finished

-- 10: the entries of the table
pub live_is : (s : Representation) (bytes : List ℕ) → Carries s bytes (state_of s bytes) →
    length s.finished + length s.queue ≡ live (state_of s bytes)
unfolding live
live_is s bytes c = omega (arith, go s.restoring, done)
  where
    go : (b : Bool) → length (waiting_in b s) + length (pending_in b s) ≡ length s.queue
    go true = omega (arith, length-map s.queue did_of_entry)
    go false = omega (arith, length-map s.queue operation_of)

    done : length s.finished ≡ length (live_done (state_of s bytes))
    done = sym (length-map s.finished did_of_entry) ∙ ap length c.finished

-- .. of which a site may use n, at most 64: where all of 64 are live, all of n are
full_is : (n m : ℕ) → n ≤ live_limit → leb n m ≡ (leb n m || leb live_limit m)
full_is n m most = go (leb n m) refl
  where
    go : (b : Bool) → leb n m ≡ b → b ≡ (b || leb live_limit m)
    go true e = refl
    go false e = sym (lt-leb live_limit m (omega (arith, leb-false n m e, most)))

-- what is read of a valid site that may use n entries is so in its state_of
pub site_sees : (s : Representation) (bytes : List ℕ) → Sound s bytes → (n : ℕ) → n ≤ live_limit → (i : ℕ) (pending done full : Bool) →
    pending ≡ any (has_id i) s.queue →
    done ≡ any (has_id i) s.finished → full ≡ leb n (length s.finished + length s.queue) →
    Sees (record { restoring = s.restoring; count = s.count; pending = pending; done = done; full = full }) s.histories i
    (uses_all n (state_of s bytes)) (state_of s bytes)
unfolding Sound table_full
site_sees s bytes v n most i pending done full p d f =
    record {
      restoring = refl;
      count = refl;
      pending = p ∙ id_pending_lem s bytes i;
      done = d ∙ id_done_lem s bytes (state_of s bytes) v.carries i;
      full = f ∙ ap (leb n) (live_is s bytes v.carries) ∙ full_is n (live (state_of s bytes)) most;
      book = v.carries.book;
    }

-- .. so what a call reads of its site is so in the site's state
pub lent_sees : (s : Site) (m : Lent) → Valid s m → (i : ℕ) (pending done : Bool) →
    pending ≡ any (has_id i) (queue_rows s.table m.order m.rows) → done ≡ any (has_id i) (finished_rows s.table m.order m.rows) →
    SeesAll (record {
      restoring = s.restoring;
      count = s.count;
      pending = pending;
      done = done;
      full = leb (length m.order) (s.table.finished + s.table.queue);
    }) s m i
lent_sees s m v i pending done p d =
    site_sees (represented s m) m.log v.sound (length m.order) v.owns.usable.long i pending done _ p d
    (ap (leb (length m.order)) (sym (live-length s.table m.order m.rows v.owns)))

-- ### Verdicts

abbrev refusal_in : Result (Unit {0}) Refusal → Option Refusal
refusal_in (Ok x) = none
refusal_in (Err q) = some q

verdict_back : (o : Option Refusal) → refusal_in (verdict_of o) ≡ o
unfolding verdict_of
verdict_back none = refl
verdict_back (some r) = refl

-- a verdict that passes refuses nothing
pub passes_is : (o : Option Refusal) → Ok tt ≡ verdict_of o → o ≡ none
passes_is o e = sym (ap refusal_in e ∙ verdict_back o)

pub refused_is : (o : Option Refusal) (q : Refusal) → Err q ≡ verdict_of o → o ≡ some q
refused_is o q e = sym (ap refusal_in e ∙ verdict_back o)

-- Checks that begin with the turn and the form.
module _ (o : Option Refusal) (turn : Bool) (form rest : Option Refusal) (is : o ≡ check turn OutOfTurn (and_then form rest)) where
  pub out_of_turn : turn ≡ true → o ≡ some OutOfTurn
  unfolding check
  out_of_turn e = rw (is, e) refl

  module _ (on : turn ≡ false) where
    pub misformed : (q : Refusal) → form ≡ some q → o ≡ some q
    unfolding check and_then
    misformed q e = rw (is, on, e) refl

    pub formed_then : form ≡ none → o ≡ rest
    unfolding check and_then
    formed_then e = rw (is, on, e) refl
