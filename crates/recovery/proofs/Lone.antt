-- The words of Host are those of Claim: for a site alone HostClaim is 01's claim.
use Rattle.std.specs.Prelude.{◌≡◌, refl, false, List, [], ◌∷◌, ◌++◌, ℕ, ◌≤◌, ◌<◌, T}
use Rattle.std.proofs.Common.{sym, ap, ◌∙◌, subst, inr, arith, leb→le}
use mathlib.Core.List.{Memᴰ as Mem}
use Rattle.std.proofs.Math.Option.{some}
use Rattle.forms.specs.Forms.{Did}
use Rattle.forms.specs.declared.Refusal.TheVariants.{TableFull}
use Rattle.forms.specs.Limits.{live_limit}
use Rattle.rules.specs.State.{State, Reply, refused, ok, settle, live}
use Rattle.rules.specs.Calls.{table_full, Call, Cut, Changeover, Redo, End, step}
use Rattle.rule_laws.specs.WhenLaws.{step_off, ten_why}
use Rattle.rules.specs.Run.{run}
use Rattle.rule_laws.specs.GoodLaws.{good-run}
use Rattle.recovery.specs.Claim.{counted_after, counted, Fair, lost_by, comes_after, came_from, came, Comes, Recovered, RecoveryClaim}
use Rattle.recovery.proofs.Recovery.{start-good}
use Rattle.recovery.proofs.HostLaws.{host_recovery}
use Rattle.recovery.specs.Host.{Host, run_in, Playing, counted_in, came_in, FairIn, ListIn, HostClaim}

-- a site alone
abbrev pub lone : Host
lone = record { World = State; Move = Call; next = λ c st. settle (step c st) st; site = λ st. st; own = λ c. some c; reply = step }

run-same : (xs : List Call) (st : State) → run xs st ≡ run_in lone xs st
unfolding run run_in
run-same [] st = refl
run-same (c ∷ xs) st = run-same xs (settle (step c st) st)

counted_same : (xs : List Call) (m : ℕ) (st : State) → counted m xs st ≡ counted_in lone m xs st
unfolding counted counted_in
counted_same [] m st = refl
counted_same (c ∷ xs) m st = counted_same xs (counted_after c (step c st) m) (settle (step c st) st)

came_same : (xs : List Call) (lines : List (List ℕ)) (st : State) → came_from lines xs st ≡ came_in lone lines xs st
unfolding came_from came_in
came_same [] lines st = refl
came_same (c ∷ xs) lines st = came_same xs (comes_after c (step c st) lines) (settle (step c st) st)

plays : (xs : List Call) (st : State) → Playing lone xs st
plays [] st = tt
plays (c ∷ xs) st = ((refl, inr refl), plays xs (settle (step c st) st))

some_one : (a b : Call) → some a ≡ some b → a ≡ b
some_one a b e = cc

fair_in : (m k room : ℕ) (c : Call) (st after : State) → c ≡ Cut k room → Fair m k room st after → FairIn lone m k room c st after
fair_in m k room c st after e F =
    record {
      is_cut = ap some e;
      answer = F.answer;
      accepted = ap (λ (x : Call). step x st) e ∙ F.accepted;
      keeps = F.keeps;
      no_shorter = F.no_shorter;
    }

at_least : (st : State) → T (table_full st) → live_limit ≤ live st
unfolding table_full
at_least st t = leb→le live_limit (live st) t

-- From the host's claim to 01's.
pub lone_claim : HostClaim lone → RecoveryClaim
lone_claim claim m s start xs k room ys after chosen fair asked =
    subst (λ (st : State). Recovered st after (lost_by st after) chosen (came all-calls s) (run all-calls s)) (sym (run-same xs s))
    (subst (λ (z : List (List ℕ)). Recovered (run_in lone xs s) after (lost_by (run_in lone xs s) after) chosen z (run all-calls s))
    (sym (came_same all-calls [] s))
    (subst (λ (st : State). Recovered (run_in lone xs s) after (lost_by (run_in lone xs s) after) chosen (came_in lone [] all-calls s) st)
    (sym (run-same all-calls s))
    (claim chosen list)))
  where
    all-calls : List Call
    all-calls = xs ++ Cut k room ∷ ys

    lost_is : lost_by (run xs s) after ≡ lost_by (run_in lone xs s) after
    lost_is = ap (λ (st : State). lost_by st after) (run-same xs s)

    few : live (run_in lone xs s) ≤ live_limit
    few = subst (λ (st : State). live st ≤ live_limit) (run-same xs s) (good-run xs s (start-good m s start)).few

    moved : (zs : List Call) (c : Call) (r : Reply) → step c (run_in lone zs s) ≡ r → step c (run zs s) ≡ r
    moved zs c r e = ap (step c) (run-same zs s) ∙ e

    -- A cut of the list, as the host says it.
    fair_at : (zs : List Call) (j wide : ℕ) (c : Call) (st : State) → c ≡ Cut j wide → Fair (counted m zs s) j wide (run zs s) st →
        FairIn lone (counted_in lone m zs s) j wide c (run_in lone zs s) st
    fair_at zs j wide c st e F =
        subst (λ (n : ℕ). FairIn lone n j wide c (run_in lone zs s) st) (counted_same zs m s)
        (subst (λ (w : State). FairIn lone (counted m zs s) j wide c w st) (run-same zs s)
        (fair_in (counted m zs s) j wide c (run zs s) st e F))

    not_full : (zs : List Call) (c : Call) (line : List ℕ) → c ≡ Redo line → live (run_in lone zs s) < live (run_in lone xs s) →
        step c (run_in lone zs s) ≡ refused TableFull → ⊥
    not_full zs c line e lt ten =
        let t = ten_why false (Redo line) (run_in lone zs s)
        (sym (step_off (Redo line) (run_in lone zs s)) ∙ ap (λ (x : Call). step x (run_in lone zs s)) (sym e) ∙ ten) in
        omega (arith, few, at_least (run_in lone zs s) t)

    list : ListIn lone chosen
    list =
        record {
          m = m;
          start = s;
          begins = start;
          xs = xs;
          x = Cut k room;
          k = k;
          room = room;
          ys = ys;
          after = after;
          plays = plays all-calls s;
          fair = fair_at xs k room (Cut k room) after refl fair;
          asked =
              record {
                cuts = λ a c b j wide st answer e o r.
                    let p = some_one c (Cut j wide) o in
                    fair_at (xs ++ Cut k room ∷ a) j wide c st p
                    (asked.cuts a j wide b st answer (e ∙ ap (λ (x : Call). a ++ x ∷ b) p)
                    (moved (xs ++ Cut k room ∷ a) (Cut j wide) (ok st answer)
                    (ap (λ (x : Call). step x (run_in lone (xs ++ Cut k room ∷ a) s)) (sym p) ∙ r)));
                redos = λ a c b line st answer e o r.
                    let p = some_one c (Redo line) o in
                    let q = asked.redos a line b st answer (e ∙ ap (λ (x : Call). a ++ x ∷ b) p)
                    (moved (xs ++ Cut k room ∷ a) (Redo line) (ok st answer)
                    (ap (λ (x : Call). step x (run_in lone (xs ++ Cut k room ∷ a) s)) (sym p) ∙ r)) in
                    (q.0, subst (λ (l : List Did). Mem q.0 l) lost_is q.1, q.2, q.3);
                changeovers = λ a c b j wide st answer e o r.
                    let p = some_one c (Changeover j wide) o in
                    asked.changeovers a j wide b st answer (e ∙ ap (λ (x : Call). a ++ x ∷ b) p)
                    (moved (xs ++ Cut k room ∷ a) (Changeover j wide) (ok st answer)
                    (ap (λ (x : Call). step x (run_in lone (xs ++ Cut k room ∷ a) s)) (sym p) ∙ r));
                ends = λ a c b st answer e o r.
                    let p = some_one c End o in
                    asked.ends a b st answer (e ∙ ap (λ (x : Call). a ++ x ∷ b) p)
                    (moved (xs ++ Cut k room ∷ a) End (ok st answer)
                    (ap (λ (x : Call). step x (run_in lone (xs ++ Cut k room ∷ a) s)) (sym p) ∙ r));
                all = λ d lost t.
                    subst (λ (z : List (List ℕ)). Comes z d) (came_same all-calls [] s)
                    (asked.all d (subst (λ (l : List Did). Mem d l) (sym lost_is) lost) t);
              };
          roomy = λ a c b line e o lt ten. not_full (xs ++ Cut k room ∷ a) c line (some_one c (Redo line) o) lt ten;
        }

-- So 01's claim follows from the host's laws, and needs no induction of its own.
pub recovery_again : RecoveryClaim
recovery_again = lone_claim (host_recovery lone)
