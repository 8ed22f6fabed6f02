-- A slot's replies are a function of its own calls and of where its refusals 10 fell.
use Rattle.std.specs.Prelude.{◌≡◌, refl, Bool, true, false, cond, List, [], ◌∷◌, map, ℕ, ◌<◌, eqb, ltb, length}
use Rattle.std.proofs.Common.{sym, ap, ap₂, ◌∙◌, subst, inl, inr, arith, eqb→eq}
use Rattle.std.proofs.Math.Option.{Option, none, some}
use Rattle.forms.specs.ListLaws.{true_T}
use Rattle.forms.specs.Refusals.{number_of}
use Rattle.forms.specs.declared.Refusal.{Refusal}
use Rattle.forms.specs.declared.Refusal.TheVariants.{Unreadable, WrongCount, NoSuchHistory, HistoryTwice, OperandRange, NothingOrders}
use Rattle.forms.specs.declared.Refusal.TheVariants.{IdPending, AlreadyDone, ReadOvertaken, TableFull, WrongState, NoRoom, AboveLimit}
use Rattle.forms.specs.declared.Refusal.TheVariants.{OutOfTurn, BadLog, HighestVersion, WrongThreshold, NotSent, Conflict, NoLengthFits}
use Rattle.forms.specs.declared.Refusal.TheVariants.{WindowRange}
use Rattle.rules.specs.Checks.{check}
use Rattle.rules.specs.State.{State, Reply, refused, ok}
use Rattle.rules.specs.Calls.{restart}
use Rattle.rule_laws.specs.WhenLaws.{TenOr, step-ten, lastly-ten, unless-ten}
use Rattle.compact.specs.Module.{Slot, Module, slot_at, meets_ten, uncovered, kept_live, Move, At, Open, Restart, slot_of, call_at}
use Rattle.compact.specs.Module.{reply_of, settle_in, next_of}
use Rattle.compact.proofs.Fits.{at_with, length_with}
use Rattle.compact.proofs.ClaimLaws.{next-other, not_eq}
use Rattle.compact.specs.Alone.{own_calls, replies_of, is_ten, OnlyThroughTen, unflagged, settle_site, alone, RepliesAlone}

-- ### One call

reply_ten : (x : Move) (m : Module) → TenOr (reply_of x m) (unflagged x (slot_at (slot_of x) m).site)
unfolding reply_of
reply_ten (At i c) m = go (slot_at i m).site
  where
    go : (o : Option State) → TenOr (call_at o i c m) (unflagged (At i c) o)
    go none = inr refl
    go (some st) = step-ten (meets_ten i c st m) c st
reply_ten (Open i n room) m = inr refl
reply_ten (Restart i buffer k) m =
    unless-ten (check (ltb 3 i) OutOfTurn none) _ _ (lastly-ten (uncovered i (kept_live (restart buffer k)) m) (restart buffer k))

tenth_is : (r : Refusal) → is_ten (refused r) ≡ true → r ≡ TableFull
unfolding is_ten number_of
tenth_is Unreadable e = absurd (true_T (is_ten (refused Unreadable)) e)
tenth_is WrongCount e = absurd (true_T (is_ten (refused WrongCount)) e)
tenth_is NoSuchHistory e = absurd (true_T (is_ten (refused NoSuchHistory)) e)
tenth_is HistoryTwice e = absurd (true_T (is_ten (refused HistoryTwice)) e)
tenth_is OperandRange e = absurd (true_T (is_ten (refused OperandRange)) e)
tenth_is NothingOrders e = absurd (true_T (is_ten (refused NothingOrders)) e)
tenth_is IdPending e = absurd (true_T (is_ten (refused IdPending)) e)
tenth_is AlreadyDone e = absurd (true_T (is_ten (refused AlreadyDone)) e)
tenth_is ReadOvertaken e = absurd (true_T (is_ten (refused ReadOvertaken)) e)
tenth_is TableFull e = refl
tenth_is WrongState e = absurd (true_T (is_ten (refused WrongState)) e)
tenth_is NoRoom e = absurd (true_T (is_ten (refused NoRoom)) e)
tenth_is AboveLimit e = absurd (true_T (is_ten (refused AboveLimit)) e)
tenth_is OutOfTurn e = absurd (true_T (is_ten (refused OutOfTurn)) e)
tenth_is BadLog e = absurd (true_T (is_ten (refused BadLog)) e)
tenth_is HighestVersion e = absurd (true_T (is_ten (refused HighestVersion)) e)
tenth_is WrongThreshold e = absurd (true_T (is_ten (refused WrongThreshold)) e)
tenth_is NotSent e = absurd (true_T (is_ten (refused NotSent)) e)
tenth_is Conflict e = absurd (true_T (is_ten (refused Conflict)) e)
tenth_is NoLengthFits e = absurd (true_T (is_ten (refused NoLengthFits)) e)
tenth_is WindowRange e = absurd (true_T (is_ten (refused WindowRange)) e)

ten_is : (r : Reply) → is_ten r ≡ true → r ≡ refused TableFull
unfolding is_ten
ten_is (refused r) e = ap refused (tenth_is r e)
ten_is (ok after answer) e = absurd (true_T false e)

is_ten_lem : is_ten (refused TableFull) ≡ true
unfolding is_ten number_of
is_ten_lem = refl

-- A reply, from where 10 fell.
from-ten : (r y : Reply) → TenOr r y → r ≡ cond (is_ten r) (refused TableFull) y
from-ten r y t = go (is_ten r) refl t
  where
    go : (b : Bool) → is_ten r ≡ b → TenOr r y → r ≡ cond b (refused TableFull) y
    go true e t = ten_is r e
    go false e (inl p) = absurd (true_T false (sym e ∙ ap is_ten p ∙ is_ten_lem))
    go false e (inr p) = p

settle_site_lem : (i : ℕ) (r : Reply) (p : ℕ) (m : Module) → i < length m → (slot_at i (settle_in i r p m)).site ≡ settle_site r (slot_at i m).site
settle_site_lem i (refused r) p m lt = refl
settle_site_lem i (ok after answer) p m lt = ap (λ (s : Slot). s.site) (at_with i (record { site = some after; promise = p }) m lt)

next-site : (x : Move) (m : Module) → slot_of x < length m →
    (slot_at (slot_of x) (next_of x m)).site ≡ settle_site (reply_of x m) (slot_at (slot_of x) m).site
unfolding next_of
next-site x m lt = settle_site_lem (slot_of x) (reply_of x m) _ m lt

settle-length : (i : ℕ) (r : Reply) (p : ℕ) (m : Module) → length (settle_in i r p m) ≡ length m
settle-length i (refused r) p m = refl
settle-length i (ok after answer) p m = length_with i _ m

next-length : (x : Move) (m : Module) → length (next_of x m) ≡ length m
unfolding next_of
next-length x m = settle-length (slot_of x) (reply_of x m) _ m

-- ### Lists

pub replies-alone : RepliesAlone
unfolding replies_of alone
replies-alone i lt [] m four = refl
replies-alone i lt (x ∷ xs) m four = go (eqb (slot_of x) i) refl (replies-alone i lt xs (next_of x m) (next-length x m ∙ four))
  where
    rest : List Reply
    rest = replies_of i xs (next_of x m)

    own : slot_of x ≡ i → rest ≡ alone (own_calls i xs) (map is_ten rest) (slot_at i (next_of x m)).site →
        reply_of x m ∷ rest ≡ alone (x ∷ own_calls i xs) (is_ten (reply_of x m) ∷ map is_ten rest) (slot_at i m).site
    own e below = ap₂ (λ (r : Reply) (l : List Reply). r ∷ l) same (below ∙ ap (alone (own_calls i xs) (map is_ten rest)) next)
      where
        same : reply_of x m ≡ cond (is_ten (reply_of x m)) (refused TableFull) (unflagged x (slot_at i m).site)
        same = from-ten (reply_of x m) _ (subst (λ (k : ℕ). TenOr (reply_of x m) (unflagged x (slot_at k m).site)) e (reply_ten x m))

        next : (slot_at i (next_of x m)).site ≡ settle_site (cond (is_ten (reply_of x m)) (refused TableFull) (unflagged x (slot_at i m).site))
            (slot_at i m).site
        next =
            subst (λ (k : ℕ). (slot_at k (next_of x m)).site ≡ settle_site (reply_of x m) (slot_at k m).site) e
            (next-site x m (omega (arith, ap (λ (k : ℕ). k) e)))
            ∙ ap (λ (r : Reply). settle_site r (slot_at i m).site) same

    go : (b : Bool) → eqb (slot_of x) i ≡ b → rest ≡ alone (own_calls i xs) (map is_ten rest) (slot_at i (next_of x m)).site →
        cond b (reply_of x m ∷ rest) rest ≡
        alone (cond b (x ∷ own_calls i xs) (own_calls i xs)) (map is_ten (cond b (reply_of x m ∷ rest) rest)) (slot_at i m).site
    go true e below = own (eqb→eq (slot_of x) i (true_T (eqb (slot_of x) i) e)) below
    go false e below =
        below ∙ ap (λ (s : Slot). alone (own_calls i xs) (map is_ten rest) s.site) (next-other i x m (not_eq i (slot_of x) e))

pub only_through_ten : OnlyThroughTen
only_through_ten i lt xs ys m w four-m four-w start calls tens =
    replies-alone i lt xs m four-m
    ∙ ap (λ (o : Option State). alone (own_calls i xs) (map is_ten (replies_of i xs m)) o) start
    ∙ ap (λ (c : List Move). alone c (map is_ten (replies_of i xs m)) (slot_at i w).site) calls
    ∙ ap (λ (t : List Bool). alone (own_calls i ys) t (slot_at i w).site) tens
    ∙ sym (replies-alone i lt ys w four-w)
