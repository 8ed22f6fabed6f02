-- The recovery claim of a site that does not stand alone, proved: a move is another's, a call of 01, or a refusal 10.
use Rattle.std.specs.Prelude.{◌≡◌, ◌⊎◌, Bool, ℕ, ◌+◌, ◌≤◌, ◌<◌, take, drop}
use Rattle.std.proofs.Math.Path.{refl, sym, ap, subst}
use Rattle.std.proofs.Common.{◌∙◌}
use Rattle.std.proofs.Math.Logic.{inl, inr}
use mathlib.Core.List.{List, [], ◌∷◌, ◌++◌, append_assoc, append-nil}
use mathlib.Core.List.Memᴰ
use mathlib.Core.List.{Memᴰ as Mem}
use Rattle.std.proofs.Math.Option.{Option, none, some}
use native.Mathlib.Omega.{arith}
use Rattle.std.proofs.Math.ListN.{length}
use Rattle.forms.specs.ListLaws.{mem_along}
use Rattle.forms.specs.Forms.{Base, Did, Line, did_text, Answer}
use Rattle.forms.specs.declared.Refusal.TheVariants.{TableFull}
use Rattle.rules.specs.Book.{base_of}
use Rattle.rules.specs.State.{start_of, State, Reply, refused, ok, settle, lines_in, live}
use Rattle.rules.specs.Calls.{Call, Add, Finish, Withdraw, Persistent, Stable, Show, Cut, Changeover, Redo, End, step}
use Rattle.rules.specs.Log.{mark}
use Rattle.rule_laws.specs.CheckLaws.{refused_not_ok}
use Rattle.rule_laws.specs.Good.{Good}
use Rattle.rule_laws.specs.GoodLaws.{good-step}
use Rattle.recovery.specs.Claim.{counted_after, lost_by, comes_after, Recovered}
use Rattle.recovery.proofs.Cuts.{skip, Picked, Cutting, cutting, left-kept, picked-at, were_live, cut-live}
use Rattle.recovery.proofs.Steps.{Site, fresh_below, redo_full_lem}
use Rattle.recovery.proofs.StepLaws.{Obeys, step_keeps}
use Rattle.recovery.proofs.Recovery.{start-good, cut-site, stays-counted, still_kept, site_enough, ending}
use Rattle.recovery.proofs.Counted.{Counts, counted_start, counts_step}
use Rattle.recovery.specs.Arrival.{every, SameWork}
use Rattle.recovery.proofs.ArrivalLaws.{work_done}
use Rattle.recovery.specs.Host.{Host, Plays, run_in, Playing, counted_on, counted_in, came_on, came_in, ListIn, before_cut, at_end}
use Rattle.recovery.specs.Host.{HostClaim, HostArrival}

module _ (H : Host) where
  -- ### Lists of moves

  pub run-append : (xs ys : List H.Move) (w : H.World) → run_in H (xs ++ ys) w ≡ run_in H ys (run_in H xs w)
  unfolding run_in
  run-append [] ys w = refl
  run-append (x ∷ xs) ys w = run-append xs ys (H.next x w)

  run_snoc : (xs : List H.Move) (x : H.Move) (w : H.World) → run_in H (xs ++ x ∷ []) w ≡ H.next x (run_in H xs w)
  unfolding run_in
  run_snoc xs x w = run-append xs (x ∷ []) w

  came_snoc : (lines : List (List ℕ)) (xs : List H.Move) (x : H.Move) (w : H.World) →
      came_in H lines (xs ++ x ∷ []) w ≡ came_on H (H.own x) (H.reply x (run_in H xs w)) (came_in H lines xs w)
  unfolding run_in came_in
  came_snoc lines [] x w = refl
  came_snoc lines (y ∷ xs) x w = came_snoc (came_on H (H.own y) (H.reply y w) lines) xs x (H.next y w)

  pub playing_first : (a b : List H.Move) (w : H.World) → Playing H (a ++ b) w → Playing H a w
  playing_first [] b w p = tt
  playing_first (x ∷ a) b w p = (p.0, playing_first a b (H.next x w) p.1)

  pub playing_at : (a : List H.Move) (x : H.Move) (b : List H.Move) (w : H.World) → Playing H (a ++ x ∷ b) w →
      Plays H (H.own x) x (run_in H a w)
  unfolding run_in
  playing_at [] x b w p = p.0
  playing_at (y ∷ a) x b w p = playing_at a x b (H.next y w) p.1

  -- ### One move

  pub good_move : (o : Option Call) (x : H.Move) (w : H.World) → Plays H o x w → Good (H.site w) → Good (H.site (H.next x w))
  unfolding settle
  good_move none x w p G = subst Good (sym p) G
  good_move (some c) x w (p, inl e) G = subst Good (sym (p ∙ ap (λ (r : Reply). settle r (H.site w)) e)) G
  good_move (some c) x w (p, inr e) G = subst Good (sym (p ∙ ap (λ (r : Reply). settle r (H.site w)) e)) (good-step c (H.site w) G)

  pub good_in : (xs : List H.Move) (w : H.World) → Playing H xs w → Good (H.site w) → Good (H.site (run_in H xs w))
  unfolding run_in
  good_in [] w p G = G
  good_in (x ∷ xs) w p G = good_in xs (H.next x w) p.1 (good_move (H.own x) x w p.0 G)

  counted_move : (o : Option Call) (x : H.Move) (w : H.World) (m : ℕ) → Plays H o x w → Good (H.site w) → Counts m (H.site w) →
      Counts (counted_on H o (H.reply x w) m) (H.site (H.next x w))
  unfolding counted_after settle
  counted_move none x w m p G c = subst (Counts m) (sym p) c
  counted_move (some c) x w m (p, inl e) G k =
      subst (Counts (counted_after c (H.reply x w) m)) (sym (p ∙ ap (λ (r : Reply). settle r (H.site w)) e))
      (subst (λ (r : Reply). Counts (counted_after c r m) (H.site w)) (sym e) k)
  counted_move (some c) x w m (p, inr e) G k =
      subst (Counts (counted_after c (H.reply x w) m)) (sym (p ∙ ap (λ (r : Reply). settle r (H.site w)) e))
      (subst (λ (r : Reply). Counts (counted_after c r m) (settle (step c (H.site w)) (H.site w))) (sym e)
      (counts_step c m (H.site w) G k))

  pub counted_in_lem : (xs : List H.Move) (m : ℕ) (w : H.World) → Playing H xs w → Good (H.site w) → Counts m (H.site w) →
      Counts (counted_in H m xs w) (H.site (run_in H xs w))
  unfolding counted_in run_in
  counted_in_lem [] m w p G c = c
  counted_in_lem (x ∷ xs) m w p G c =
      counted_in_lem xs (counted_on H (H.own x) (H.reply x w) m) (H.next x w) p.1 (good_move (H.own x) x w p.0 G)
      (counted_move (H.own x) x w m p.0 G c)

  counted_snoc : (m : ℕ) (xs : List H.Move) (x : H.Move) (w : H.World) →
      counted_in H m (xs ++ x ∷ []) w ≡ counted_on H (H.own x) (H.reply x (run_in H xs w)) (counted_in H m xs w)
  unfolding run_in counted_in
  counted_snoc m [] x w = refl
  counted_snoc m (y ∷ xs) x w = counted_snoc (counted_on H (H.own y) (H.reply y w) m) xs x (H.next y w)

  -- ### A fair cut

  -- A fair cut leaves no more live than were before it.
  pub fair_live : (m k room : ℕ) (before after : State) (answer : Answer) → Good before → Counts m before →
      step (Cut k room) before ≡ ok after answer →
      ((l : Line) → Mem l (take m (lines_in before)) → Mem l (lines_in after)) → live after ≤ live before
  unfolding settle
  fair_live m k room before after answer G c e keeps =
      let C = cutting k room before after answer G e in
      cut-live room before after G (subst (λ (r : Reply). Good (settle r before)) e (good-step (Cut k room) before G)) C
      (left-kept m room before after G c C keeps)

  -- ### The list

  module _ (chosen : Did → Bool) (l : ListIn H chosen) where
    before : State
    before = H.site (run_in H l.xs l.start)

    up_to : List H.Move → List H.Move
    up_to a = l.xs ++ l.x ∷ a

    at-world : List H.Move → H.World
    at-world a = run_in H (up_to a) l.start

    lines_of : List H.Move → List (List ℕ)
    lines_of a = came_in H [] (up_to a) l.start

    playing_to : (a b : List H.Move) → l.ys ≡ a ++ b → Playing H (up_to a) l.start
    unfolding up_to
    playing_to a b e =
        playing_first (l.xs ++ l.x ∷ a) b l.start
        (subst (λ (z : List H.Move). Playing H z l.start)
        (ap {B = List H.Move} (λ z. l.xs ++ l.x ∷ z) e ∙ sym (append_assoc l.xs (l.x ∷ a) b)) l.plays)

    start_is : Good (H.site l.start)
    start_is = start-good l.m (H.site l.start) l.begins

    marks : Counts l.m (H.site l.start)
    marks = counted_start l.m (H.site l.start) l.begins

    before_plays : Playing H l.xs l.start
    before_plays = playing_first l.xs (l.x ∷ l.ys) l.start l.plays

    before-good : Good before
    unfolding before
    before-good = good_in l.xs l.start before_plays start_is

    -- The picked cut is one of 01.
    cut_plays : Plays H (some (Cut l.k l.room)) l.x (run_in H l.xs l.start)
    cut_plays =
        subst (λ (o : Option Call). Plays H o l.x (run_in H l.xs l.start)) l.fair.is_cut
        (playing_at l.xs l.x l.ys l.start l.plays)

    accepted : step (Cut l.k l.room) before ≡ ok l.after l.fair.answer
    unfolding before
    accepted = go cut_plays.1
      where
        go : (H.reply l.x (run_in H l.xs l.start) ≡ refused TableFull) ⊎
            (H.reply l.x (run_in H l.xs l.start) ≡ step (Cut l.k l.room) (H.site (run_in H l.xs l.start))) →
            step (Cut l.k l.room) (H.site (run_in H l.xs l.start)) ≡ ok l.after l.fair.answer
        go (inl e) = absurd (refused_not_ok TableFull l.after l.fair.answer (sym e ∙ l.fair.accepted))
        go (inr e) = sym e ∙ l.fair.accepted

    C : Cutting l.room before l.after
    C = cutting l.k l.room before l.after l.fair.answer before-good accepted

    kept : before.left_to ≤ mark (start_of before) (lines_in l.after)
    unfolding before
    kept =
        left-kept (counted_in H l.m l.xs l.start) l.room before l.after before-good
        (counted_in_lem l.xs l.m l.start before_plays start_is marks) C l.fair.keeps

    KL : List Line
    KL = lines_in l.after

    lost : List Did
    lost = lost_by before l.after

    P : Picked (start_of l.after) before.histories KL l.after.log lost
    unfolding KL lost
    P = picked-at l.room before l.after before-good C kept

    all_live : (st : State) → st.base ≡ l.after.base → (i : ℕ) → i < length (drop (skip (start_of st) KL) l.after.log) + length lost →
        i < live before
    unfolding KL lost
    all_live st e i lt =
        omega (
          arith,
          were_live l.room before l.after before-good C kept,
          ap (λ (β : Option Base). length (drop (skip (base_of β) (lines_in l.after)) l.after.log)) e,
        )

    abbrev At : List (List ℕ) → State → Type 0
    At lines st = Site before.histories l.after.base KL l.after.log lost chosen lines st

    taken : H.site (at-world []) ≡ l.after
    unfolding at-world up_to settle
    taken =
        ap H.site (run_snoc l.xs l.x l.start)
        ∙ cut_plays.0 ∙ ap (λ (r : Reply). settle r (H.site (run_in H l.xs l.start))) l.fair.accepted

    none_came : lines_of [] ≡ []
    unfolding lines_of up_to comes_after
    none_came =
        came_snoc [] l.xs l.x l.start
        ∙ ap (λ (o : Option Call). came_on H o (H.reply l.x (run_in H l.xs l.start)) (came_in H [] l.xs l.start))
        l.fair.is_cut
        ∙ ap (λ (r : Reply). comes_after (Cut l.k l.room) r (came_in H [] l.xs l.start)) l.fair.accepted

    good-at : (a b : List H.Move) → l.ys ≡ a ++ b → Good (H.site (at-world a))
    unfolding at-world
    good-at a b e = good_in (up_to a) l.start (playing_to a b e) start_is

    at_cut : At [] l.after
    unfolding before KL lost
    at_cut = cut-site l.room before l.after chosen before-good C P (subst Good taken (good-at [] l.ys refl)) l.fair.no_shorter

    abbrev Obeying : State → Call → Type 0
    Obeying st c = Obeys before.histories l.after.base KL l.after.log lost chosen st c

    -- What is asked of a call, said of its step in 01.
    obeys : (a : List H.Move) (x : H.Move) (b : List H.Move) → l.ys ≡ a ++ x ∷ b → (c : Call) → H.own x ≡ some c →
        length KL ≤ counted_in H l.m (up_to a) l.start → length KL ≤ length (lines_in (H.site (at-world a))) →
        H.reply x (at-world a) ≡ step c (H.site (at-world a)) → Obeying (H.site (at-world a)) c
    unfolding at-world up_to before lost
    obeys a x b e (Add i us) o le enough p = tt
    obeys a x b e (Finish i) o le enough p = tt
    obeys a x b e (Withdraw i) o le enough p = tt
    obeys a x b e (Persistent n) o le enough p = tt
    obeys a x b e (Stable n) o le enough p = tt
    obeys a x b e (Show h) o le enough p = tt
    obeys a x b e (Cut j r) o le enough p = λ st answer q.
        let f = l.asked.cuts a x b j r st answer e o (p ∙ q) in (
          still_kept KL (counted_in H l.m (up_to a) l.start) (H.site (at-world a)) st (good-at a (x ∷ b) e) le enough f.keeps,
          f.no_shorter,
        )
    obeys a x b e (Changeover n r) o le enough p = λ st answer q. l.asked.changeovers a x b n r st answer e o (p ∙ q)
    obeys a x b e (Redo line) o le enough p = λ st answer q. l.asked.redos a x b line st answer e o (p ∙ q)
    obeys a x b e End o le enough p = λ st answer q. l.asked.ends a x b st answer e o (p ∙ q)

    -- A call that is refused 10.
    refused_ten : (a : List H.Move) (x : H.Move) (b : List H.Move) → l.ys ≡ a ++ x ∷ b → (c : Call) → H.own x ≡ some c →
        H.reply x (at-world a) ≡ refused TableFull → (lines : List (List ℕ)) → At lines (H.site (at-world a)) →
        At (comes_after c (refused TableFull) lines) (H.site (at-world a))
    unfolding comes_after at-world up_to before
    refused_ten a x b e (Add i us) o p lines G = G
    refused_ten a x b e (Finish i) o p lines G = G
    refused_ten a x b e (Withdraw i) o p lines G = G
    refused_ten a x b e (Persistent n) o p lines G = G
    refused_ten a x b e (Stable n) o p lines G = G
    refused_ten a x b e (Show h) o p lines G = G
    refused_ten a x b e (Cut j r) o p lines G = G
    refused_ten a x b e (Changeover n r) o p lines G = G
    refused_ten a x b e (Redo line) o p lines G =
        redo_full_lem before.histories l.after.base KL l.after.log lost chosen lines (H.site (at-world a)) G line
        (λ lt. l.roomy a x b line e o (all_live (H.site (at-world a)) G.base_is _ lt) p)
    refused_ten a x b e End o p lines G = G

    -- What holds after the first calls a of ys: KL is counted, and the site is as Steps says.
    record Holds (a : List H.Move) : Type 0 where
      counted : length KL ≤ counted_in H l.m (up_to a) l.start
      at : At (lines_of a) (H.site (at-world a))

    enough : (a : List H.Move) → Holds a → length KL ≤ length (lines_in (H.site (at-world a)))
    enough a G = site_enough before.histories l.after.base KL l.after.log lost chosen (lines_of a) (H.site (at-world a)) G.at

    move_keeps : (a : List H.Move) (x : H.Move) (b : List H.Move) → l.ys ≡ a ++ x ∷ b → (o : Option Call) → H.own x ≡ o →
        Plays H o x (at-world a) → Holds a →
        (length KL ≤ counted_on H o (H.reply x (at-world a)) (counted_in H l.m (up_to a) l.start)) ×
        At (came_on H o (H.reply x (at-world a)) (lines_of a)) (H.site (H.next x (at-world a)))
    unfolding settle counted_after
    move_keeps a x b e none o p G = (G.counted, subst (λ (s : State). At (lines_of a) s) (sym p) G.at)
    move_keeps a x b e (some c) o (p, inl q) G = (
      subst (λ (r : Reply). length KL ≤ counted_after c r (counted_in H l.m (up_to a) l.start)) (sym q) G.counted,
      subst (λ (s : State). At (comes_after c (H.reply x (at-world a)) (lines_of a)) s)
          (sym (p ∙ ap (λ (r : Reply). settle r (H.site (at-world a))) q))
          (subst (λ (r : Reply). At (comes_after c r (lines_of a)) (H.site (at-world a))) (sym q)
          (refused_ten a x b e c o q (lines_of a) G.at)),
    )
    move_keeps a x b e (some c) o (p, inr q) G =
        let O : Obeying (H.site (at-world a)) c = obeys a x b e c o G.counted (enough a G) q in (
          subst (λ (r : Reply). length KL ≤ counted_after c r (counted_in H l.m (up_to a) l.start)) (sym q)
              (stays-counted before.histories l.after.base KL l.after.log lost chosen c (H.site (at-world a))
              (counted_in H l.m (up_to a) l.start) G.counted O),
          subst (λ (s : State). At (comes_after c (H.reply x (at-world a)) (lines_of a)) s) (sym p)
              (subst (λ (r : Reply). At (comes_after c r (lines_of a)) (settle r (H.site (at-world a)))) (sym q)
              (step_keeps before.histories l.after.base KL l.after.log lost chosen (lines_of a) (H.site (at-world a))
              G.at c O
              (good-step c (H.site (at-world a)) (good-at a (x ∷ b) e)))),
        )

    -- What holds after the first calls a of ys holds after the next b.
    keeps : (a b c : List H.Move) → l.ys ≡ a ++ (b ++ c) → Holds a → Holds (a ++ b)
    unfolding up_to at-world lines_of
    keeps a [] c e G = subst Holds (sym (append-nil a)) G
    keeps a (x ∷ b) c e G =
        subst Holds (append_assoc a (x ∷ []) b)
        (keeps (a ++ x ∷ []) b c (e ∙ sym (append_assoc a (x ∷ []) (b ++ c))) next)
      where
        plays : Plays H (H.own x) x (at-world a)
        plays =
            playing_at (up_to a) x (b ++ c) l.start
            (subst (λ (z : List H.Move). Playing H z l.start)
            (ap {B = List H.Move} (λ z. l.xs ++ l.x ∷ z) e ∙ sym (append_assoc l.xs (l.x ∷ a) (x ∷ (b ++ c)))) l.plays)

        made : (length KL ≤ counted_on H (H.own x) (H.reply x (at-world a)) (counted_in H l.m (up_to a) l.start)) ×
            At (came_on H (H.own x) (H.reply x (at-world a)) (lines_of a)) (H.site (H.next x (at-world a)))
        made = move_keeps a x (b ++ c) e (H.own x) refl plays G

        longer : up_to (a ++ x ∷ []) ≡ up_to a ++ x ∷ []
        longer = sym (append_assoc l.xs (l.x ∷ a) (x ∷ []))

        next : Holds (a ++ x ∷ [])
        next =
            record {
              counted =
                  omega (
                    arith,
                    made.0,
                    counted_snoc l.m (up_to a) x l.start,
                    ap (λ (z : List H.Move). counted_in H l.m z l.start) longer,
                  );
              at =
                  subst (λ (z : List H.Move). At (came_in H [] z l.start) (H.site (run_in H z l.start))) (sym longer)
                  (subst (λ (z : List (List ℕ)). At z (H.site (run_in H (up_to a ++ x ∷ []) l.start)))
                  (sym (came_snoc [] (up_to a) x l.start))
                  (subst (λ (w : H.World). At (came_on H (H.own x) (H.reply x (at-world a)) (lines_of a)) (H.site w))
                  (sym (run_snoc (up_to a) x l.start)) made.1));
            }

    first_counted : length KL ≤ counted_in H l.m (up_to []) l.start
    unfolding KL up_to counted_after
    first_counted =
        omega (
          arith,
          counted_snoc l.m l.xs l.x l.start,
          ap (λ (o : Option Call). counted_on H o (H.reply l.x (run_in H l.xs l.start)) (counted_in H l.m l.xs l.start))
              l.fair.is_cut,
          ap (λ (r : Reply). counted_after (Cut l.k l.room) r (counted_in H l.m l.xs l.start)) l.fair.accepted,
        )

    at_first : Holds []
    at_first =
        record {
          counted = first_counted;
          at =
              subst (λ (t : State). At (lines_of []) t) (sym taken) (subst (λ (z : List (List ℕ)). At z l.after) (sym none_came) at_cut);
        }

    at_all : (a b : List H.Move) → l.ys ≡ a ++ b → At (lines_of a) (H.site (at-world a))
    at_all a b e = (keeps [] a b e at_first).at

    at_end_lem : At (lines_of l.ys) (H.site (at-world l.ys))
    at_end_lem = at_all l.ys [] (sym (append-nil l.ys))

    -- At no moment is a lost line refused 10 that has not run and does not wait.
    pub never_ten : (a : List H.Move) (x : H.Move) (b : List H.Move) (d : Did) → l.ys ≡ a ++ x ∷ b →
        H.own x ≡ some (Redo (did_text d)) →
        Mem d (lost_by (before_cut H l) l.after) → (Mem d (H.site (run_in H (l.xs ++ l.x ∷ a) l.start)).log → ⊥) →
        (Mem d (H.site (run_in H (l.xs ++ l.x ∷ a) l.start)).waiting → ⊥) →
        H.reply x (run_in H (l.xs ++ l.x ∷ a) l.start) ≡ refused TableFull → ⊥
    unfolding before up_to at-world lines_of lost
    never_ten a x b d e own gone out-log out-wait ten =
        let G = at_all a (x ∷ b) e in
        l.roomy a x b (did_text d) e own
        (all_live (H.site (at-world a)) G.base_is _
        (fresh_below before.histories l.after.base KL l.after.log lost chosen (lines_of a) (H.site (at-world a)) G d gone
        (λ r. out-log (mem_along (sym G.inv.split) (Memᴰ.append_right l.after.log r))) out-wait)) ten

    pub recovered : Recovered (before_cut H l) l.after (lost_by (before_cut H l) l.after) chosen
        (came_in H [] (l.xs ++ l.x ∷ l.ys) l.start) (at_end H l)
    unfolding before up_to at-world lines_of KL lost
    recovered =
        ending l.room before l.after chosen before-good C (lines_of l.ys) (H.site (at-world l.ys)) at_end_lem l.asked.all

  module _ (l : ListIn H every) where
    pub arrived : SameWork (before_cut H l).log (at_end H l).log
    unfolding before up_to at-world lines_of KL lost
    arrived =
        work_done l.room (before every l) l.after (C every l) (lines_of every l l.ys) (H.site (at-world every l l.ys))
        (at_end_lem every l) l.asked.all

-- Demand 3 for a site in whatever carries it.
pub host_recovery : (H : Host) → HostClaim H
host_recovery H chosen l = recovered H chosen l

-- and (n)
pub host_arrival : (H : Host) → HostArrival H
host_arrival H l = arrived H l
