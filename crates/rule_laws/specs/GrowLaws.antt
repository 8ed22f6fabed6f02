-- Calls that only add lines to the log: every call but a cut and a changeover leaves the lines that stood there, and others may follow.
use Rattle.std.specs.Prelude.{◌≡◌, refl, Bool, true, false, List, [], ◌∷◌, ◌++◌, map, ℕ, suc, length}
use Rattle.std.proofs.Common.{sym, ap, ◌∙◌, subst, append_assoc, append-nil}
use Rattle.std.proofs.Math.Option.{Option, none, some}
use Rattle.forms.specs.Decimal.{Step}
use Rattle.forms.specs.Decimal.Step.{got, bad}
use Rattle.forms.specs.Lists.{find}
use Rattle.forms.specs.ListLaws.{Prefix, false_T}
use Rattle.forms.specs.Forms.{Base, Did, did_line, stable_line, Answer}
use Rattle.forms.specs.Reading.{read_did}
use Rattle.forms.specs.declared.Refusal.TheVariants.{Unreadable, AboveLimit, OutOfTurn, NoRoom, NoSuchHistory}
use Rattle.rules.specs.Log.{dids, weave}
use Rattle.rules.specs.State.{Operation, State, Reply, refused, ok, settle, lines_in, start_of, with_stables}
use Rattle.rules.specs.Calls.{in_progress, line_of, finished, finish_found, finish, add, withdraw, persistent, above_mark}
use Rattle.rules.specs.Calls.{stabled, stable, show, drain, delivered, redo_read, redo, end, Call, Add}
use Rattle.rules.specs.Calls.{Finish, Withdraw, Persistent, Stable, Show, Cut, Changeover, Redo, End, perform, step}
use Rattle.rules.specs.Card.{takes_back}
use Rattle.rule_laws.specs.CheckLaws.{refused_not_ok, unless_ok, unless-check}
use Rattle.rule_laws.specs.Good.{Good}
use Rattle.rule_laws.specs.DrainLaws.{drain_keeps}
use Rattle.rule_laws.specs.WeaveLaws.{weave-append, weave-stable, dids-append, dids-weave}

-- ### What is said

-- The log after some calls goes on where it stood before them.
pub record Continues (st after : State) : Type 0 where
  pub histories : after.histories ≡ st.histories
  pub base : after.base ≡ st.base
  pub lines : Prefix (lines_in st) (lines_in after)

-- .. and no operation left the table
pub record Grows (st after : State) : Type 0 where
  pub continues : Continues st after
  pub left : after.left_to ≡ st.left_to

pub ok_state : (a b : State) (x y : Answer) → ok a x ≡ ok b y → a ≡ b
ok_state a b x y e = cc

-- ### Calls that add no line

continues_same : (st after : State) → lines_in after ≡ lines_in st → after.base ≡ st.base → after.histories ≡ st.histories →
    Continues st after
continues_same st after e b h = record { histories = h; base = b; lines = ([], e ∙ sym (append-nil (lines_in st))) }

pub grows_as : (st s after : State) (x answer : Answer) → ok s x ≡ ok after answer → Grows st s → Grows st after
grows_as st s after x answer e g = subst (Grows st) (ok_state s after x answer e) g

pub grows_same : (st after : State) → lines_in after ≡ lines_in st → after.left_to ≡ st.left_to → after.base ≡ st.base →
    after.histories ≡ st.histories → Grows st after
grows_same st after e l b h = record { continues = continues_same st after e b h; left = l }

-- ### Calls that add lines

grows_dids : (st after : State) (more : List Did) → Good st → after.log ≡ st.log ++ more → after.stables ≡ st.stables →
    after.left_to ≡ st.left_to → after.base ≡ st.base → after.histories ≡ st.histories → Grows st after
grows_dids st after more G e s l b h =
    record {
      continues =
          record {
            histories = h;
            base = b;
            lines = (
              map did_line more,
              ap (λ (ss : List _). weave after.log ss) s ∙ ap (λ (ds : List Did). weave ds st.stables) e
                  ∙ weave-append st.log more st.stables G.below,
            );
          };
      left = l;
    }

drain-front : (σ : Base) (k : ℕ) (log waiting : List Did) → Prefix log (drain σ k log waiting).log
drain-front σ k log waiting =
    drain_keeps σ (λ l w. Prefix log l)
    (λ l a d b t p. (p.0 ++ d ∷ [], ap {B = List Did} (λ x. x ++ d ∷ []) p.1 ∙ append_assoc log p.0 (d ∷ [])))
    k log waiting ([], sym (append-nil log))

pub grows_finish : (x : Option Operation) (st after : State) (answer : Answer) → Good st → finish_found x st ≡ ok after answer →
    Grows st after
unfolding finish_found finished
grows_finish none st after answer G e = absurd (refused_not_ok _ after answer e)
grows_finish (some x) st after answer G e =
    grows_as st _ after _ answer (unless-check _ NoRoom _ after answer e).1
    (grows_dids st _ (line_of (start_of st) st.log x ∷ []) G refl refl refl refl refl)

pub grows_redo : (x : Step Did) (st after : State) (answer : Answer) → Good st → redo_read x st ≡ ok after answer → Grows st after
unfolding redo_read delivered
grows_redo bad st after answer G e = absurd (refused_not_ok _ after answer e)
grows_redo (got d rest) st after answer G e =
    let p = drain-front (start_of st) (suc (length st.waiting)) st.log (st.waiting ++ (d ∷ [])) in
    grows_as st _ after _ answer (unless_ok _ _ after answer e).1 (grows_dids st _ p.0 G p.1 refl refl refl refl)

pub grows_stable : (n : ℕ) (st : State) → Grows st (stabled n st)
unfolding stabled
grows_stable n st = go (above_mark n st)
  where
    go : (b : Bool) →
        Grows st (elim b [ true ↦ with_stables (st.stables ++ (record { behind = length st.log; up_to = n } ∷ [])) st | false ↦ st ])
    go true =
        record {
          continues = record { histories = refl; base = refl; lines = (stable_line n ∷ [], weave-stable st.log st.stables n) };
          left = refl;
        }
    go false = grows_same st st refl refl refl refl

-- ### Every call

grown : (st s after : State) (x answer : Answer) → ok s x ≡ ok after answer → Grows st s → Continues st after
grown st s after x answer e g = (grows_as st s after x answer e g).continues

continues_ok : (c : Call) (st after : State) (answer : Answer) → takes_back c ≡ false → Good st → perform c st ≡ ok after answer →
    Continues st after
unfolding takes_back perform add finish withdraw persistent stable show redo end
continues_ok (Add i us) st after answer f G e =
    grown st _ after _ answer (unless_ok _ _ after answer e).1 (grows_same st _ refl refl refl refl)
continues_ok (Finish i) st after answer f G e =
    (grows_finish (find (in_progress i) st.pending) st after answer G (unless-check _ OutOfTurn _ after answer e).1).continues
continues_ok (Withdraw i) st after answer f G e =
    grown st _ after _ answer (unless_ok _ _ after answer e).1 (grows_same st _ refl refl refl refl)
continues_ok (Persistent n) st after answer f G e =
    subst (Continues st) (ok_state _ after _ answer (unless-check _ AboveLimit _ after answer e).1) (continues_same st _ refl refl refl)
continues_ok (Stable n) st after answer f G e = grown st _ after _ answer (unless_ok _ _ after answer e).1 (grows_stable n st)
continues_ok (Show h) st after answer f G e =
    grown st st after _ answer (unless-check _ NoSuchHistory _ after answer e).1 (grows_same st st refl refl refl refl)
continues_ok (Cut k room) st after answer f G e = absurd (false_T true f tt)
continues_ok (Changeover n room) st after answer f G e = absurd (false_T true f tt)
continues_ok (Redo line) st after answer f G e = (grows_redo (read_did line) st after answer G e).continues
continues_ok End st after answer f G e =
    grown st _ after _ answer (unless-check _ OutOfTurn _ after answer e).1 (grows_same st _ refl refl refl refl)

-- A call that is no cut and no changeover: the log goes on where it stood.
pub continues_step : (c : Call) (st : State) → takes_back c ≡ false → Good st → Continues st (settle (step c st) st)
unfolding step settle
continues_step c st f G = go (step c st) refl
  where
    go : (x : Reply) → step c st ≡ x → Continues st (settle x st)
    go (refused r) e = continues_same st st refl refl refl
    go (ok after answer) e = continues_ok c st after answer f G (unless-check _ Unreadable _ after answer e).1

-- .. and so do its did lines
pub continues_log : (st after : State) → Continues st after → Prefix st.log after.log
continues_log st after C = (
  dids C.lines.0,
  sym (dids-weave after.log after.stables) ∙ ap dids C.lines.1 ∙ dids-append (lines_in st) C.lines.0
      ∙ ap (λ (l : List Did). l ++ dids C.lines.0) (dids-weave st.log st.stables),
)
