-- Request (m), the last sentence: "A neighbour's calls can alter this site's replies only through refusal 10". It is proved in AloneLaws.
use Rattle.std.specs.Prelude.{◌≡◌, Bool, false, cond, not, ◌||◌, List, [], ◌∷◌, map, ℕ, ◌<◌, eqb, ltb, length}
use Rattle.std.proofs.Math.Option.{Option, none, some}
use Rattle.forms.specs.Lists.{keep}
use Rattle.forms.specs.Refusals.{number_of}
use Rattle.forms.specs.declared.Refusal.TheVariants.{Unreadable, OutOfTurn, TableFull}
use Rattle.rules.specs.Checks.{check}
use Rattle.rules.specs.State.{State, Reply, refused, ok}
use Rattle.rules.specs.Calls.{unless, open_site, restart, step}
use Rattle.compact.specs.Module.{slot_limit, Module, slot_at, opened_in, Move, At, Open, Restart, slot_of, readable, reply_of, next_of}

-- "calls of its own": those of slot i, in their order
abbrev pub own_calls : ℕ → List Move → List Move
own_calls i xs = keep (λ x. eqb (slot_of x) i) xs

-- "all its replies" (with the site that each leaves)
unfoldable pub replies_of : ℕ → List Move → Module → List Reply
replies_of i [] m = []
replies_of i (x ∷ xs) m = cond (eqb (slot_of x) i) (reply_of x m ∷ replies_of i xs (next_of x m)) (replies_of i xs (next_of x m))

-- "its refusals 10"
unfoldable pub is_ten : Reply → Bool
is_ten (refused r) = eqb (number_of r) 10
is_ten (ok after answer) = false

-- "from one start and for the same calls of its own, if its refusals 10 fall at the same ones, all its replies are the same."
abbrev pub OnlyThroughTen : Type 0
OnlyThroughTen =
    (i : ℕ) → i < slot_limit → (xs ys : List Move) (m w : Module) → length m ≡ slot_limit → length w ≡ slot_limit →
    (slot_at i m).site ≡ (slot_at i w).site → own_calls i xs ≡ own_calls i ys →
    map is_ten (replies_of i xs m) ≡ map is_ten (replies_of i ys w) → replies_of i xs m ≡ replies_of i ys w

-- ### The site by itself

-- the reply to a call of a slot where 10 is not met from outside
abbrev pub unflagged : Move → Option State → Reply
unflagged (At i c) none = unless (check (not (readable c)) Unreadable none) (refused OutOfTurn)
unflagged (At i c) (some st) = step c st
unflagged (Open i n room) o = unless (check (ltb 3 i || opened_in o) OutOfTurn none) (open_site n room)
unflagged (Restart i buffer k) o = unless (check (ltb 3 i) OutOfTurn none) (restart buffer k)

abbrev pub settle_site : Reply → Option State → Option State
settle_site (refused r) o = o
settle_site (ok after answer) o = some after

-- The replies to calls of a slot alone, given where 10 falls: a function of nothing else.
unfoldable pub alone : List Move → List Bool → Option State → List Reply
alone [] tens o = []
alone (x ∷ xs) [] o = []
alone (x ∷ xs) (ten ∷ tens) o =
    let r = cond ten (refused TableFull) (unflagged x o) in
    r ∷ alone xs tens (settle_site r o)

-- The replies of a slot in a module are those of the slot alone.
abbrev pub RepliesAlone : Type 0
RepliesAlone =
    (i : ℕ) → i < slot_limit → (xs : List Move) (m : Module) → length m ≡ slot_limit →
    replies_of i xs m ≡ alone (own_calls i xs) (map is_ten (replies_of i xs m)) (slot_at i m).site
