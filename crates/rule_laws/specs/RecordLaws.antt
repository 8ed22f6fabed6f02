-- Laws of records (02, (e)): what every call leaves of an operation's record; so the operation counts exactly when that many full copies
-- have reported, and stays so while its record stands.
use Rattle.std.proofs.Math.Path.{◌≡◌, refl, ap}
use Rattle.std.proofs.Common.{sym, ap₂, ◌∙◌, arith}
use Rattle.std.specs.Prelude.{Bool, cond, ◌&&◌, ◌||◌, List, [], ◌∷◌, ◌++◌, ℕ, leb, ltb, length}
use Rattle.std.proofs.Math.Bool.{true, false, not}
use Rattle.std.proofs.Math.Option.{Option, none, some}
use mathlib.Core.List.Memᴰ.{head as here}
use mathlib.Core.List.Memᴰ.{tail as there}
use mathlib.Core.List.{Memᴰ as Mem}
use Rattle.std.proofs.Math.Dec.{eqb}
use borrow.Author.Tests.{eq-eqb, ne_eqb, eqb-true, eqb-false}
use Rattle.forms.specs.Lists.{any, keep, find}
use Rattle.forms.specs.ListLaws.{mem_along, true_T, false_T, any_of}
use Rattle.forms.specs.declared.Refusal.{Refusal}
use Rattle.forms.specs.declared.Refusal.TheVariants.{IdPending, TableFull, WrongThreshold, NotSent}
use Rattle.rules.specs.Checks.{check}
use Rattle.rule_laws.specs.CheckLaws.{check_none}
use Rattle.rules.specs.Records.{is_in, sites_of, with_site, Record, new_record, full_reports, counts, is_for, change_first, drop_first}
use Rattle.rules.specs.Records.{ok, counted, unless_checked, recorded, records_full, wrong_threshold, full_not_sent, record_refusal}
use Rattle.rules.specs.Records.{record_new, on_record, with_report, reported_in, report_on, report, question, forget_record}
use Rattle.rules.specs.Records.{RecordCall, recording, reporting, asking, forgetting, record_reply, records_after, records_run}

-- ### Finding

module _ {A : Type 0} (f : A → Bool) where
  find-before : (l k : List A) (x : A) → find f l ≡ some x → find f (l ++ k) ≡ some x
  find-before [] k x e = absurd (let z : ◌≡◌ {A = ℕ} 0 1 = cc in omega arith)
  find-before (y ∷ l) k x e = go (f y) e (λ q. find-before l k x q)
    where
      go : (b : Bool) → cond b (some y) (find f l) ≡ some x → (find f l ≡ some x → find f (l ++ k) ≡ some x)
          → cond b (some y) (find f (l ++ k)) ≡ some x
      go true q below = q
      go false q below = below q

  -- where none passes, the first of what follows does
  find-behind : (l : List A) (x : A) → any f l ≡ false → f x ≡ true → find f (l ++ (x ∷ [])) ≡ some x
  find-behind [] x e h = rw h
  find-behind (y ∷ l) x e h = go (f y) e (λ q. find-behind l x q h)
    where
      go : (b : Bool) → (b || any f l) ≡ false → (any f l ≡ false → find f (l ++ (x ∷ [])) ≡ some x)
          → cond b (some y) (find f (l ++ (x ∷ []))) ≡ some x
      go true q below = absurd (let z : ◌≡◌ {A = ℕ} 0 1 = cc in omega arith)
      go false q below = below q

  -- a change that leaves the test as it is, of the element that is found
  pub find-changed : (g : A → A) → ((x : A) → f (g x) ≡ f x) → (l : List A) (x : A) → find f l ≡ some x
      → find f (change_first f g l) ≡ some (g x)
  find-changed g h [] x e = absurd (let z : ◌≡◌ {A = ℕ} 0 1 = cc in omega arith)
  find-changed g h (y ∷ l) x e = go (f y) refl e (λ q. find-changed g h l x q)
    where
      go : (b : Bool) → f y ≡ b → cond b (some y) (find f l) ≡ some x → (find f l ≡ some x → find f (change_first f g l) ≡ some (g x))
          → find f (cond b (g y ∷ l) (y ∷ change_first f g l)) ≡ some (g x)
      go true p q below = let z : y ≡ x = cc in rw (h y, p) (ap (λ (w : A). some (g w)) z)
      go false p q below = rw p (below q)

  -- .. of another element
  find-beside : (p : A → Bool) (g : A → A) → ((x : A) → f (g x) ≡ f x) → ((x : A) → f x ≡ true → p x ≡ false) → (l : List A)
      → find f (change_first p g l) ≡ find f l
  find-beside p g h apart [] = refl
  find-beside p g h apart (y ∷ l) = go (p y) (f y) refl refl (find-beside p g h apart l)
    where
      go : (a b : Bool) → p y ≡ a → f y ≡ b → find f (change_first p g l) ≡ find f l
          → find f (cond a (g y ∷ l) (y ∷ change_first p g l)) ≡ cond b (some y) (find f l)
      go true true q r below = let z : ◌≡◌ {A = ℕ} 0 1 = cc (apart y r) in absurd (omega arith)
      go true false q r below = rw (h y, r)
      go false true q r below = rw r
      go false false q r below = rw r below

  find-without : (p : A → Bool) → ((x : A) → f x ≡ true → p x ≡ false) → (l : List A) → find f (drop_first p l) ≡ find f l
  find-without p apart [] = refl
  find-without p apart (y ∷ l) = go (p y) (f y) refl refl (find-without p apart l)
    where
      go : (a b : Bool) → p y ≡ a → f y ≡ b → find f (drop_first p l) ≡ find f l
          → find f (cond a l (y ∷ drop_first p l)) ≡ cond b (some y) (find f l)
      go true true q r below = let z : ◌≡◌ {A = ℕ} 0 1 = cc (apart y r) in absurd (omega arith)
      go true false q r below = refl
      go false true q r below = rw r
      go false false q r below = rw r below

  -- a change twice
  pub changed-again : (g : A → A) → ((x : A) → f (g x) ≡ f x) → ((x : A) → g (g x) ≡ g x) → (l : List A)
      → change_first f g (change_first f g l) ≡ change_first f g l
  changed-again g h twice [] = refl
  changed-again g h twice (y ∷ l) = go (f y) refl (changed-again g h twice l)
    where
      go : (b : Bool) → f y ≡ b → change_first f g (change_first f g l) ≡ change_first f g l
          → change_first f g (cond b (g y ∷ l) (y ∷ change_first f g l)) ≡ cond b (g y ∷ l) (y ∷ change_first f g l)
      go true p below = rw (h y, p) (ap (λ (x : A). x ∷ l) (twice y))
      go false p below = rw p (ap {B = List A} (λ k. y ∷ k) below)

pub keep_agree : {A : Type 0} (f g : A → Bool) (l : List A) → ((x : A) → Mem x l → f x ≡ g x) → keep f l ≡ keep g l
keep_agree f g [] h = refl
keep_agree f g (x ∷ l) h = rw (h x (here refl), keep_agree f g l (λ y m. h y (there m)))

-- ### Sites

or_swap : (a b c : Bool) → (a || (b || c)) ≡ (b || (a || c))
or_swap true true c = refl
or_swap true false c = refl
or_swap false b c = refl

or-twice : (a c : Bool) → (a || (a || c)) ≡ (a || c)
or-twice true c = refl
or-twice false c = refl

-- The sites after a report: that one, and those before.
pub in_with : (s x : ℕ) (xs : List ℕ) → is_in x (with_site s xs) ≡ (eqb x s || is_in x xs)
unfolding with_site
in_with s x [] = refl
in_with s x (y ∷ ys) = go (eqb s y) (ltb s y) refl (in_with s x ys)
  where
    go : (a b : Bool) → eqb s y ≡ a → is_in x (with_site s ys) ≡ (eqb x s || is_in x ys)
        → is_in x (cond a (y ∷ ys) (cond b (s ∷ y ∷ ys) (y ∷ with_site s ys))) ≡ (eqb x s || (eqb x y || is_in x ys))
    go true b e below = let z : s ≡ y = eqb-true s y e in rw z (sym (or-twice (eqb x y) (is_in x ys)))
    go false true e below = refl
    go false false e below = ap (λ (t : Bool). eqb x y || t) below ∙ or_swap (eqb x y) (eqb x s) (is_in x ys)

-- A site that comes twice is there once.
pub with_again : (s : ℕ) (xs : List ℕ) → with_site s (with_site s xs) ≡ with_site s xs
unfolding with_site
with_again s [] = rw (eq-eqb s s refl)
with_again s (y ∷ ys) = go (eqb s y) (ltb s y) refl refl (with_again s ys)
  where
    go : (a b : Bool) → eqb s y ≡ a → ltb s y ≡ b → with_site s (with_site s ys) ≡ with_site s ys
        → with_site s (cond a (y ∷ ys) (cond b (s ∷ y ∷ ys) (y ∷ with_site s ys)))
        ≡ cond a (y ∷ ys) (cond b (s ∷ y ∷ ys) (y ∷ with_site s ys))
    go true b p q below = rw p
    go false true p q below = rw (eq-eqb s s refl)
    go false false p q below = rw (p, q) (ap {B = List ℕ} (λ l. y ∷ l) below)

-- ### What a call leaves of a record

-- An operation's record after a call that does not forget it: a report on it from a site that it was sent to is added.
unfoldable pub record_after : ℕ → RecordCall → Record → Record
record_after id (recording j sent full t) r = r
record_after id (reporting j s) r = cond (eqb j id && is_in s r.sent) (with_report s r) r
record_after id (asking j) r = r
record_after id (forgetting j) r = r

module _ (id : ℕ) (rs : List Record) (r : Record) (found : find (is_for id) rs ≡ some r) where
  found-new : (o : Option Refusal) (x : Record) → find (is_for id) (records_after (unless_checked o (ok (rs ++ (x ∷ [])))) rs) ≡ some r
  unfolding unless_checked
  found-new (some q) x = found
  found-new none x = find-before (is_for id) rs (x ∷ []) r found

  -- a report on the operation itself
  found-reported : (s : ℕ) (o : Option Record) → o ≡ some r
      → find (is_for id) (records_after (on_record o (report_on id s rs)) rs) ≡ some (cond (is_in s r.sent) (with_report s r) r)
  unfolding on_record report_on unless_checked check reported_in
  found-reported s none e = absurd (let z : ◌≡◌ {A = ℕ} 0 1 = cc in omega arith)
  found-reported s (some x) e = let same : x ≡ r = cc in rw same (go (is_in s r.sent))
    where
      go : (b : Bool) → find (is_for id) (records_after (unless_checked (check (not b) NotSent none)
          (counted (change_first (is_for id) (with_report s) rs) (counts (with_report s r)))) rs) ≡ some (cond b (with_report s r) r)
      go true = find-changed (is_for id) (with_report s) (λ x. refl) rs r found
      go false = found

  -- a report on another operation
  found-beside : (j s : ℕ) → eqb j id ≡ false → (o : Option Record)
      → find (is_for id) (records_after (on_record o (report_on j s rs)) rs) ≡ some r
  unfolding on_record report_on unless_checked check reported_in
  found-beside j s other none = found
  found-beside j s other (some x) = go (not (is_in s x.sent))
    where
      go : (b : Bool) → find (is_for id) (records_after (unless_checked (check b NotSent none)
          (counted (change_first (is_for j) (with_report s) rs) (counts (with_report s x)))) rs) ≡ some r
      go true = found
      go false =
          find-beside (is_for id) (is_for j) (with_report s) (λ y. refl)
          (λ y e. ne_eqb y.id j (λ q. eqb-false j id other (sym q ∙ eqb-true y.id id e))) rs ∙ found

  found-report : (j s : ℕ) → find (is_for id) (records_after (report j s rs) rs) ≡ some (record_after id (reporting j s) r)
  unfolding report record_after
  found-report j s = go (eqb j id) refl
    where
      go : (b : Bool) → eqb j id ≡ b → find (is_for id) (records_after (on_record (find (is_for j) rs) (report_on j s rs)) rs)
          ≡ some (cond (b && is_in s r.sent) (with_report s r) r)
      go true e = let z : j ≡ id = eqb-true j id e in rw z (found-reported s (find (is_for id) rs) found)
      go false e = found-beside j s e (find (is_for j) rs)

  found-asked : (o : Option Record) → find (is_for id) (records_after (on_record o (λ x. counted rs (counts x))) rs) ≡ some r
  unfolding on_record
  found-asked none = found
  found-asked (some x) = found

  found_forgotten : (j : ℕ) → (j ≡ id → ⊥) → (o : Option Record)
      → find (is_for id) (records_after (on_record o (λ x. ok (drop_first (is_for j) rs))) rs) ≡ some r
  unfolding on_record
  found_forgotten j other none = found
  found_forgotten j other (some x) =
      find-without (is_for id) (is_for j) (λ y e. ne_eqb y.id j (λ q. other (sym q ∙ eqb-true y.id id e))) rs ∙ found

  -- Every call but a forgetting of the operation leaves it a record, with the report that the call may bring.
  pub found_after : (c : RecordCall) → (c ≡ forgetting id → ⊥)
      → find (is_for id) (records_after (record_reply c rs) rs) ≡ some (record_after id c r)
  unfolding record_reply record_new question forget_record record_after
  found_after (recording j sent full t) h = found-new (record_refusal j (sites_of sent) (sites_of full) t rs) _
  found_after (reporting j s) h = found-report j s
  found_after (asking j) h = found-asked (find (is_for j) rs)
  found_after (forgetting j) h = found_forgotten j (λ e. h (ap forgetting e)) (find (is_for j) rs)

-- what the question replies where there is a record
pub question_is : (id : ℕ) (rs : List Record) (r : Record) → find (is_for id) rs ≡ some r → question id rs ≡ counted rs (counts r)
unfolding question on_record
question_is id rs r e = rw e

-- ### "It counts exactly when that many full copies have reported."

-- whether a site reported an operation in some calls
unfoldable pub is_report : ℕ → ℕ → RecordCall → Bool
is_report id s (recording j sent full t) = false
is_report id s (reporting j x) = eqb j id && eqb s x
is_report id s (asking j) = false
is_report id s (forgetting j) = false

-- No call of these forgets the operation.
abbrev pub Unforgotten : ℕ → List RecordCall → Type 0
Unforgotten id cs = (c : RecordCall) → Mem c cs → c ≡ forgetting id → ⊥

-- every full copy is at a site that the operation was sent to
abbrev Within : Record → Type 0
Within r = (s : ℕ) → Mem s r.full → is_in s r.sent ≡ true

or-false : (a : Bool) → (a || false) ≡ a
or-false true = refl
or-false false = refl

-- A full copy's site after a call: it had reported before, or does so now.
reported-after : (id : ℕ) (c : RecordCall) (r : Record) (s : ℕ) → is_in s r.sent ≡ true → (x : Bool)
    → (is_in s (record_after id c r).reported || x) ≡ (is_in s r.reported || (is_report id s c || x))
unfolding record_after is_report
reported-after id (recording j sent full t) r s h x = refl
reported-after id (asking j) r s h x = refl
reported-after id (forgetting j) r s h x = refl
reported-after id (reporting j y) r s h x = go (eqb j id) (is_in y r.sent) refl
  where
    go : (a b : Bool) → is_in y r.sent ≡ b
        → (is_in s (cond (a && b) (with_report y r) r).reported || x) ≡ (is_in s r.reported || ((a && eqb s y) || x))
    go true true e =
        ap (λ (t : Bool). t || x) (in_with y s r.reported) ∙ or_move (eqb s y) (is_in s r.reported)
      where
        or_move : (p q : Bool) → ((p || q) || x) ≡ (q || (p || x))
        or_move true true = refl
        or_move true false = refl
        or_move false q = refl
    go true false e =
        ap (λ (t : Bool). is_in s r.reported || (t || x))
        (sym (ne_eqb s y (λ q. let z : ◌≡◌ {A = ℕ} 0 1 = cc (ap (λ (k : ℕ). is_in k r.sent) q) in omega arith)))
    go false b e = refl

-- A call changes neither the full copies nor the threshold, nor where the operation was sent to.
after_same : (id : ℕ) (c : RecordCall) (r : Record)
    → ((record_after id c r).full ≡ r.full) × ((record_after id c r).sent ≡ r.sent) × ((record_after id c r).threshold ≡ r.threshold)
unfolding record_after
after_same id (recording j sent full t) r = (refl, refl, refl)
after_same id (asking j) r = (refl, refl, refl)
after_same id (forgetting j) r = (refl, refl, refl)
after_same id (reporting j s) r = go (eqb j id && is_in s r.sent)
  where
    go : (b : Bool) → ((cond b (with_report s r) r).full ≡ r.full) × ((cond b (with_report s r) r).sent ≡ r.sent)
        × ((cond b (with_report s r) r).threshold ≡ r.threshold)
    go true = (refl, refl, refl)
    go false = (refl, refl, refl)

-- How many full copies reported, in the record or in the calls.
abbrev reports_in : ℕ → Record → List RecordCall → ℕ
reports_in id r cs = length (keep (λ s. is_in s r.reported || any (is_report id s) cs) r.full)

reports_next : (id : ℕ) (c : RecordCall) (cs : List RecordCall) (r : Record) → Within r
    → reports_in id (record_after id c r) cs ≡ reports_in id r (c ∷ cs)
reports_next id c cs r within =
    ap (λ (l : List ℕ). length (keep (λ s. is_in s (record_after id c r).reported || any (is_report id s) cs) l)) (after_same id c r).0
    ∙ ap length (keep_agree (λ (s : ℕ). is_in s (record_after id c r).reported || any (is_report id s) cs)
    (λ (s : ℕ). is_in s r.reported || (is_report id s c || any (is_report id s) cs)) r.full
    (λ s m. reported-after id c r s (within s m) (any (is_report id s) cs)))

question-run : (id : ℕ) (cs : List RecordCall) (rs : List Record) (r : Record) → find (is_for id) rs ≡ some r → Within r → Unforgotten id cs
    → question id (records_run cs rs) ≡ counted (records_run cs rs) (leb r.threshold (reports_in id r cs))
unfolding records_run counts full_reports
question-run id [] rs r found within kept =
    question_is id rs r found
    ∙ ap (λ (l : List ℕ). counted rs (leb r.threshold (length l)))
    (keep_agree (λ (s : ℕ). is_in s r.reported) (λ (s : ℕ). is_in s r.reported || false) r.full
    (λ s m. sym (or-false (is_in s r.reported))))
question-run id (c ∷ cs) rs r found within kept =
    let next = records_after (record_reply c rs) rs in
    let same = after_same id c r in
    question-run id cs next (record_after id c r) (found_after id rs r found c (kept c (here refl)))
    (λ s m. ap (is_in s) same.1 ∙ within s (mem_along same.0 m)) (λ x m. kept x (there m))
    ∙ ap₂ (λ (t n : ℕ). counted (records_run cs next) (leb t n)) same.2 (reports_next id c cs r within)

-- ### Recording and reporting

-- What an accepted record is: 7, 10, 18 and 19 did not refuse it, and it stands behind the others.
pub record Accepted (id sent full t : ℕ) (rs after : List Record) : Type 0 where
  pub fresh : recorded id rs ≡ false
  pub room : records_full rs ≡ false
  pub threshold : wrong_threshold t (sites_of full) ≡ false
  pub covered : full_not_sent (sites_of sent) (sites_of full) ≡ false
  pub behind : rs ++ (new_record id (sites_of sent) (sites_of full) t ∷ []) ≡ after

pub accepted : (id sent full t : ℕ) (rs after : List Record) → record_new id sent full t rs ≡ ok after → Accepted id sent full t rs after
unfolding record_new record_refusal unless_checked
accepted id sent full t rs after e = go (record_refusal id (sites_of sent) (sites_of full) t rs) refl e
  where
    go : (o : Option Refusal) → record_refusal id (sites_of sent) (sites_of full) t rs ≡ o
        → unless_checked o (ok (rs ++ (new_record id (sites_of sent) (sites_of full) t ∷ []))) ≡ ok after → Accepted id sent full t rs after
    go (some q) p h = absurd (let z : ◌≡◌ {A = ℕ} 0 1 = cc in omega arith)
    go none p h =
        let a = check_none _ IdPending _ p in
        let b = check_none _ TableFull _ a.1 in
        let c = check_none _ WrongThreshold _ b.1 in
        let d = check_none _ NotSent _ c.1 in
        record { fresh = a.0; room = b.0; threshold = c.0; covered = d.0; behind = (cc) }

module _ (id sent full t : ℕ) (rs after : List Record) (new : Accepted id sent full t rs after) where
  pub new-found : find (is_for id) after ≡ some (new_record id (sites_of sent) (sites_of full) t)
  unfolding recorded
  new-found =
      ap (find (is_for id)) (sym new.behind) ∙ find-behind (is_for id) rs _ new.fresh (eq-eqb id id refl)

  new-within : (s : ℕ) → Mem s (sites_of full) → is_in s (sites_of sent) ≡ true
  unfolding full_not_sent
  new-within s m = go (is_in s (sites_of sent)) refl
    where
      go : (b : Bool) → is_in s (sites_of sent) ≡ b → b ≡ true
      go true e = refl
      go false e =
          absurd (false_T (any (λ (x : ℕ). not (is_in x (sites_of sent))) (sites_of full)) new.covered
          (any_of (λ (x : ℕ). not (is_in x (sites_of sent))) m (true_T _ (ap not e))))

-- What an accepted report is: 19 did not refuse it.
pub record Reported (id s : ℕ) (rs after : List Record) (b : Bool) (r : Record) : Type 0 where
  pub found : find (is_for id) rs ≡ some r
  pub sent : is_in s r.sent ≡ true
  pub records : reported_in id s rs ≡ after
  pub reply : counts (with_report s r) ≡ b

pub reported : (id s : ℕ) (rs after : List Record) (b : Bool) → report id s rs ≡ counted after b → (r : Record) × Reported id s rs after b r
unfolding report on_record report_on unless_checked check
reported id s rs after b e = found (find (is_for id) rs) refl e
  where
    sent : (r : Record) → find (is_for id) rs ≡ some r → (t : Bool) → is_in s r.sent ≡ t
        → unless_checked (check (not t) NotSent none) (counted (reported_in id s rs) (counts (with_report s r))) ≡ counted after b
        → (x : Record) × Reported id s rs after b x
    sent r p true q h = (r, record { found = p; sent = q; records = (cc); reply = (cc) })
    sent r p false q h = absurd (let z : ◌≡◌ {A = ℕ} 0 1 = cc in omega arith)

    found : (o : Option Record) → find (is_for id) rs ≡ o → on_record o (report_on id s rs) ≡ counted after b
        → (r : Record) × Reported id s rs after b r
    found none p q = absurd (let z : ◌≡◌ {A = ℕ} 0 1 = cc in omega arith)
    found (some r) p q = sent r p (is_in s r.sent) refl q

-- "It counts exactly when that many full copies have reported": of an operation that was just recorded, the question after any calls that
-- do not forget it is answered by how many of the full copies' sites reported it in these calls.
pub counts_exactly : (id sent full t : ℕ) (rs after : List Record) (cs : List RecordCall) → record_new id sent full t rs ≡ ok after
    → Unforgotten id cs
    → question id (records_run cs after)
    ≡ counted (records_run cs after) (leb t (length (keep (λ s. any (is_report id s) cs) (sites_of full))))
counts_exactly id sent full t rs after cs e kept =
    let new = accepted id sent full t rs after e in
    question-run id cs after (new_record id (sites_of sent) (sites_of full) t) (new-found id sent full t rs after new)
    (new-within id sent full t rs after new) kept
