-- Where refusal 10 falls, "exactly when"; and the cuts that it never meets, in bytes.
use Rattle.std.specs.Prelude.{◌≡◌, ◌⊎◌, ◌↔◌, Bool, true, false, ◌||◌, List, ℕ, ◌+◌, ◌≤◌, ◌<◌, ltb, length, take}
use Rattle.std.proofs.Math.Path.{refl, ap, subst}
use Rattle.std.proofs.Common.{sym, ◌∙◌, inl, inr, arith, leb→le, le→leb}
use Rattle.std.proofs.Math.Option.{none, some}
use Rattle.std.proofs.Math.Dec.{T}
use Rattle.forms.specs.Lists.{all, sum}
use Rattle.forms.specs.ListLaws.{false_T, or_cases, or_left, or_right}
use Rattle.forms.specs.Forms.{Answer}
use Rattle.forms.specs.declared.Refusal.{Refusal}
use Rattle.forms.specs.declared.Refusal.TheVariants.{OutOfTurn, TableFull}
use Rattle.rules.specs.Checks.{check}
use Rattle.rules.specs.Log.{log_text}
use Rattle.forms.specs.Limits.{live_limit, log_limit}
use Rattle.rules.specs.State.{State, Reply, refused, ok, log_bytes, lines_in, live}
use Rattle.rules.specs.Calls.{unless, table_full, restart, Call, Add, Finish, Withdraw, Persistent, Stable, Show, Cut, Changeover, Redo, End}
use Rattle.rules.specs.When.{lastly, step_when}
use Rattle.rule_laws.specs.WhenExactly.{ComesToTen, takes_entry, entry_exactly}
use Rattle.rule_laws.specs.CheckLaws.{refused_not_ok, none_check, unless_none, le_not_lt}
use Rattle.recovery.specs.Claim.{Start}
use Rattle.recovery.proofs.Fairness.{after, fair_bytes}
use Rattle.recovery.specs.Host.{run_in, counted_in}
use Rattle.compact.specs.Module.{slot_limit, entry_limit, Module, slot_at, others, taken, uncovered, kept_live, meets_ten, Move, At}
use Rattle.compact.specs.Module.{Restart, reply_of}
use Rattle.compact.specs.Fits.{claims, Fits}
use Rattle.compact.proofs.Fits.{taken_is, not_taken_lem, uncovered_is, covered}
use Rattle.compact.proofs.FitsLaws.{below, live_is, call_is}
use Rattle.compact.specs.Claim.{site_or, in_slot, goes_on}
use Rattle.compact.proofs.SlotLaws.{slot_good-after, slot_counts, fair_cut_accepted}

-- ### Add and redo

true_false : true ≡ false → ⊥
true_false e = false_T true e tt

module _ (i : ℕ) (m : Module) (F : Fits m) (st : State) (at : (slot_at i m).site ≡ some st) where
  flag_is : (c : Call) → takes_entry c ≡ true → meets_ten i c st m ≡ taken i m
  unfolding meets_ten
  flag_is (Add n us) t = refl
  flag_is (Finish n) t = absurd (true_false (sym t))
  flag_is (Withdraw n) t = absurd (true_false (sym t))
  flag_is (Persistent n) t = absurd (true_false (sym t))
  flag_is (Stable n) t = absurd (true_false (sym t))
  flag_is (Show h) t = absurd (true_false (sym t))
  flag_is (Cut k room) t = absurd (true_false (sym t))
  flag_is (Changeover n room) t = absurd (true_false (sym t))
  flag_is (Redo line) t = refl
  flag_is End t = absurd (true_false (sym t))

  -- "An add or redo is refused 10 exactly when the site has 64, or when the free entries do not exceed what the others still lack of their
  -- promise":
  -- when what it has and what the others claim are the whole table. (`ComesToTen`: no check before 10 refuses it.)
  pub entry-ten : (c : Call) → takes_entry c ≡ true → ComesToTen c st →
      reply_of (At i c) m ≡ refused TableFull ↔ (live_limit ≤ live st) ⊎ (entry_limit ≤ live st + sum claims (others i m))
  unfolding table_full
  entry-ten c t comes = (
    λ ten. out (or_cases (taken i m) (table_full st) (both.0 (sym (call_is i m F st at c) ∙ ten))),
    λ why. call_is i m F st at c ∙ both.1 (into why),
  )
    where
      both : step_when (meets_ten i c st m) c st ≡ refused TableFull ↔ T (taken i m || table_full st)
      both =
          subst (λ (b : Bool). step_when b c st ≡ refused TableFull ↔ T (taken i m || table_full st)) (sym (flag_is c t))
          (entry_exactly (taken i m) c st t comes)

      out : T (taken i m) ⊎ T (table_full st) → (live_limit ≤ live st) ⊎ (entry_limit ≤ live st + sum claims (others i m))
      out (inl q) = inr (omega (arith, taken_is i m F (below i m F st at) q, live_is i m F st at))
      out (inr q) = inl (leb→le live_limit (live st) q)

      full : entry_limit ≤ live st + sum claims (others i m) → (b : Bool) → taken i m ≡ b → T b
      full le true e = tt
      full le false e = absurd (let lt = not_taken_lem i m F (below i m F st at) e in omega (arith, live_is i m F st at))

      into : (live_limit ≤ live st) ⊎ (entry_limit ≤ live st + sum claims (others i m)) → T (taken i m || table_full st)
      into (inl q) = or_right (taken i m) (table_full st) (le→leb live_limit (live st) q)
      into (inr q) = or_left (taken i m) (table_full st) (full q (taken i m) refl)

-- ### Restart of a slot

lastly_exactly : (full : Bool) (x : Reply) (after : State) (answer : Answer) → x ≡ ok after answer →
    lastly full x ≡ refused TableFull ↔ T full
unfolding lastly unless check
lastly_exactly full x after answer e = subst (λ (r : Reply). lastly full r ≡ refused TableFull ↔ T full) (sym e) (go full)
  where
    go : (b : Bool) → lastly b (ok after answer) ≡ refused TableFull ↔ T b
    go true = (λ p. tt, λ t. refl)
    go false = (λ p. absurd (refused_not_ok TableFull after answer (sym p)), λ t. absurd t)

module _ (i : ℕ) (m : Module) (lt : i < slot_limit) (buffer : List ℕ) (k : ℕ) where
  restart_is : reply_of (Restart i buffer k) m ≡ lastly (uncovered i (kept_live (restart buffer k)) m) (restart buffer k)
  unfolding reply_of
  restart_is = unless_none (check (ltb 3 i) OutOfTurn none) _ (none_check (ltb 3 i) OutOfTurn none (le_not_lt 3 i (omega arith)) refl)

  -- "checked after 15": what the restart alone refuses is refused with the same number.
  pub restart_refused : (r : Refusal) → restart buffer k ≡ refused r → reply_of (Restart i buffer k) m ≡ refused r
  unfolding lastly
  restart_refused r e = restart_is ∙ ap (lastly (uncovered i (kept_live (restart buffer k)) m)) e

  -- and else 10 exactly when its kept live lines and what the others claim exceed the table
  pub restart_exactly : Fits m → (after : State) (answer : Answer) → restart buffer k ≡ ok after answer →
      reply_of (Restart i buffer k) m ≡ refused TableFull ↔ entry_limit < live after + sum claims (others i m)
  restart_exactly F after answer e = (
    λ ten. let q = uncovered_is i m F lt kept (both.0 (sym restart_is ∙ ten)) in omega (arith, kept_is),
    λ more. restart_is ∙ both.1 (full more (uncovered i kept m) refl),
  )
    where
      kept : ℕ
      kept = kept_live (restart buffer k)

      kept_is : kept ≡ live after
      kept_is = ap kept_live e

      both : lastly (uncovered i kept m) (restart buffer k) ≡ refused TableFull ↔ T (uncovered i kept m)
      both = lastly_exactly (uncovered i kept m) (restart buffer k) after answer e

      full : entry_limit < live after + sum claims (others i m) → (b : Bool) → uncovered i kept m ≡ b → T b
      full more true q = tt
      full more false q = absurd (let c = covered i m F lt kept q in omega (arith, kept_is))

-- ### Cuts of the bytes that count

module _ (i counts : ℕ) (start : Module) (F : Fits start) (site : State) (at : (slot_at i start).site ≡ some site)
    (begins : Start counts site)
    (xs : List Move) (on : T (all (goes_on i) xs)) where
  -- the slot's site after the calls
  abbrev now : State
  now = site_or (slot_at i (run_in (in_slot i) xs start)).site

  -- the lines of it that count as persistent
  abbrev count : ℕ
  count = counted_in (in_slot i) counts xs start

  module _ (k room : ℕ) (enough : length (log_text now.histories now.base (take count (lines_in now))) ≤ k)
      (within : k ≤ length (log_bytes now)) (fits : k ≤ room) (limit : room ≤ log_limit) (wide : now.room ≤ room) where
    -- A cut of at least the bytes of the lines counted persistent, in a buffer that is no shorter, is accepted, whatever the neighbours
    -- did.
    pub safe-cut : (answer : Answer) ×
        (reply_of (At i (Cut k room)) (run_in (in_slot i) xs start) ≡
        ok (after count k room now (slot_good-after i counts start F site at begins xs on)
        (slot_counts i counts start F site at begins xs on) enough within fits limit) answer)
    safe-cut =
        let f = fair_bytes count k room now (slot_good-after i counts start F site at begins xs on)
        (slot_counts i counts start F site at begins xs on) enough within fits limit wide in
        (f.answer, fair_cut_accepted i counts start F site at begins xs on k room _ f)
