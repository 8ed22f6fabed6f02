-- `end` names lines by their ids. The ids of lost lines are distinct, so it says of each lost line whether it still waits.
use Rattle.std.specs.Prelude.{◌≡◌, refl, Bool, List, [], ◌∷◌, ◌++◌, ℕ, drop}
use Rattle.std.proofs.Common.{sym, ◌∙◌, subst}
use mathlib.Core.List.Memᴰ
use mathlib.Core.List.Memᴰ.{head as here}
use mathlib.Core.List.Memᴰ.{tail as there}
use mathlib.Core.List.{Memᴰ as Mem}
use Rattle.forms.specs.ListLaws.{Nodup, nodup_right}
use Rattle.forms.specs.Forms.{Did, Ended}
use Rattle.rules.specs.State.{State, start_of, ok, lines_in}
use Rattle.rules.specs.Calls.{Call, Cut, End, step}
use Rattle.rule_laws.specs.Good.{Good, did_ids}
use Rattle.rule_laws.specs.GoodLaws.{good-run}
use Rattle.rules.specs.Run.{run}
use Rattle.recovery.specs.Claim.{Start, counted, Fair, lost_by, came, Recovered}
use Rattle.recovery.proofs.Counted.{counted_start, counted_is}
use Rattle.recovery.proofs.Cuts.{skip, log_once, left-kept, picked-at, Cutting, cutting}
use Rattle.recovery.proofs.Recovery.{start-good, recovery}
use Rattle.recovery.specs.LostIds.{OneEach, LostIdsClaim, NamesLost, NamingClaim}

-- ### Proofs

nodup_ids : (l : List Did) → Nodup l → OneEach l → Nodup (did_ids l)
nodup_ids [] once one = tt
nodup_ids (x ∷ l) once one = (
  λ m. let q = Memᴰ.of_map (λ (d : Did). d.id) l m in once.0 (Memᴰ.cast (sym (one q.0 x (there q.1) (here refl) q.2)) q.1),
  nodup_ids l once.1 (λ d e a b p. one d e (there a) (there b) p),
)

module _
    (m : ℕ) (s : State) (start : Start m s) (xs : List Call) (k room : ℕ) (after : State)
    (fair : Fair (counted m xs s) k room (run xs s) after) where
  good : Good (run xs s)
  good = good-run xs s (start-good m s start)

  cuts : Cutting room (run xs s) after
  cuts = cutting k room (run xs s) after fair.answer good fair.accepted

  abbrev lost : List Did
  lost = lost_by (run xs s) after

  one_each : OneEach lost
  one_each =
      λ d e a b p.
      (picked-at room (run xs s) after good cuts
      (left-kept (counted m xs s) room (run xs s) after good (counted_is xs m s (start-good m s start) (counted_start m s start)) cuts
      fair.keeps)
      ).ids d e (Memᴰ.append_right (drop (skip (start_of after) (lines_in after)) after.log) a)
      (Memᴰ.append_right (drop (skip (start_of after) (lines_in after)) after.log) b) p

  distinct : Nodup (did_ids lost)
  distinct = nodup_ids lost (nodup_right after.log lost (subst Nodup cuts.first (log_once (run xs s) good))) one_each

pub lost-ids : LostIdsClaim
lost-ids m s start xs k room after fair = distinct m s start xs k room after fair

same-ids : (a b : State) (i j : List ℕ) → ok a (Ended i) ≡ ok b (Ended j) → i ≡ j
same-ids a b i j e = cc

-- From what the recovery claim says of the list's end.
names-lost : (before after : State) (lost : List Did) (chosen : Did → Bool) (lines : List (List ℕ)) (final : State) → OneEach lost →
    Recovered before after lost chosen lines final → (st : State) (ids : List ℕ) → step End final ≡ ok st (Ended ids) →
    NamesLost lost chosen final ids
names-lost before after lost chosen lines final one R st ids e =
    subst (NamesLost lost chosen final) (same-ids R.named.0 st (did_ids R.others) ids (sym R.named.1 ∙ e))
    (record {
      once = nodup_ids R.others R.others_once (λ d f a b p. one d f (is_lost d a) (is_lost f b) p);
      exact = λ d l. (
        λ m.
            let q = Memᴰ.of_map (λ (x : Did). x.id) R.others m in
            let same : q.0 ≡ d = one q.0 d (is_lost q.0 q.1) l q.2 in
            let w = (R.others_are d).0 (Memᴰ.cast (sym same) q.1) in
            (w.1, w.2),
        λ w. Memᴰ.map (λ (x : Did). x.id) ((R.others_are d).1 (l, w.0, w.1)),
      );
    })
  where
    is_lost : (d : Did) → Mem d R.others → Mem d lost
    is_lost d a = ((R.others_are d).0 a).0

pub naming : NamingClaim
naming m s start xs k room ys after chosen fair asked st ids e =
    names-lost (run xs s) after (lost_by (run xs s) after) chosen (came (xs ++ Cut k room ∷ ys) s) (run (xs ++ Cut k room ∷ ys) s)
    (one_each m s start xs k room after fair) (recovery m s start xs k room ys after chosen fair asked) st ids e
