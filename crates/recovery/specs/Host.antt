-- The recovery claim of a site that does not stand alone: one of a module's (request (m) of 02), or one that is refused 10 from outside. It
-- is proved in HostLaws. The words are those of Claim, over the moves of what carries the site; a move is a call of this site, or
-- another's.
use Rattle.std.specs.Prelude.{◌≡◌, ◌⊎◌, Bool, List, [], ◌∷◌, ◌++◌, ℕ, ◌≤◌, ◌<◌, T, take}
use mathlib.Core.List.{Memᴰ as Mem}
use Rattle.std.proofs.Math.Option.{Option, none, some}
use Rattle.forms.specs.Forms.{Did, Line, did_text, Answer}
use Rattle.forms.specs.declared.Refusal.TheVariants.{TableFull}
use Rattle.rules.specs.State.{State, Reply, refused, ok, settle, lines_in, live}
use Rattle.rules.specs.Calls.{Call, Cut, Changeover, Redo, End, step}
use Rattle.recovery.specs.Claim.{Start, counted_after, lost_by, Comes, comes_after, Recovered}
use Rattle.recovery.specs.Arrival.{every, SameWork}

-- What carries a site.
pub record Host : Type 1 where
  pub World : Type 0
  pub Move : Type 0
  pub next : Move → World → World
  -- the site in it
  pub site : World → State
  -- the call of this site that a move is, if it is one
  pub own : Move → Option Call
  -- what is replied to it
  pub reply : Move → World → Reply

module _ (H : Host) where
  -- What a host does with the site: a move of others leaves it, and a call of its own is refused 10 or does what it does in 01.
  abbrev pub Plays : Option Call → H.Move → H.World → Type 0
  Plays none x w = H.site (H.next x w) ≡ H.site w
  Plays (some c) x w =
      (H.site (H.next x w) ≡ settle (H.reply x w) (H.site w))
      × ((H.reply x w ≡ refused TableFull) ⊎ (H.reply x w ≡ step c (H.site w)))

  unfoldable pub run_in : List H.Move → H.World → H.World
  run_in [] w = w
  run_in (x ∷ xs) w = run_in xs (H.next x w)

  abbrev pub Playing : List H.Move → H.World → Type 0
  Playing [] w = Unit {0}
  Playing (x ∷ xs) w = Plays (H.own x) x w × Playing xs (H.next x w)

  -- Claim's `counted` and `came`
  abbrev pub counted_on : Option Call → Reply → ℕ → ℕ
  counted_on none r m = m
  counted_on (some c) r m = counted_after c r m

  unfoldable pub counted_in : ℕ → List H.Move → H.World → ℕ
  counted_in m [] w = m
  counted_in m (x ∷ xs) w = counted_in (counted_on (H.own x) (H.reply x w) m) xs (H.next x w)

  abbrev pub came_on : Option Call → Reply → List (List ℕ) → List (List ℕ)
  came_on none r lines = lines
  came_on (some c) r lines = comes_after c r lines

  unfoldable pub came_in : List (List ℕ) → List H.Move → H.World → List (List ℕ)
  came_in lines [] w = lines
  came_in lines (x ∷ xs) w = came_in (came_on (H.own x) (H.reply x w) lines) xs (H.next x w)

  -- Claim's `Fair`
  pub record FairIn (m k room : ℕ) (x : H.Move) (w : H.World) (after : State) : Type 0 where
    pub is_cut : H.own x ≡ some (Cut k room)
    pub answer : Answer
    pub accepted : H.reply x w ≡ ok after answer
    pub keeps : (l : Line) → Mem l (take m (lines_in (H.site w))) → Mem l (lines_in after)
    pub no_shorter : (H.site w).room ≤ room

  -- Claim's `Asked`
  pub record AskedIn (m : ℕ) (w : H.World) (up_to : List H.Move → List H.Move) (ys : List H.Move) (lost : List Did)
      (chosen : Did → Bool) : Type 0 where
    pub cuts : (a : List H.Move) (x : H.Move) (b : List H.Move) (k room : ℕ) (after : State) (answer : Answer) → ys ≡ a ++ x ∷ b →
        H.own x ≡ some (Cut k room) → H.reply x (run_in (up_to a) w) ≡ ok after answer →
        FairIn (counted_in m (up_to a) w) k room x (run_in (up_to a) w) after
    pub redos : (a : List H.Move) (x : H.Move) (b : List H.Move) (line : List ℕ) (after : State) (answer : Answer) →
        ys ≡ a ++ x ∷ b →
        H.own x ≡ some (Redo line) → H.reply x (run_in (up_to a) w) ≡ ok after answer →
        (d : Did) × Mem d lost × T (chosen d) × (line ≡ did_text d)
    pub changeovers : (a : List H.Move) (x : H.Move) (b : List H.Move) (n room : ℕ) (after : State) (answer : Answer) →
        ys ≡ a ++ x ∷ b → H.own x ≡ some (Changeover n room) → H.reply x (run_in (up_to a) w) ≡ ok after answer → ⊥
    pub ends : (a : List H.Move) (x : H.Move) (b : List H.Move) (after : State) (answer : Answer) → ys ≡ a ++ x ∷ b →
        H.own x ≡ some End → H.reply x (run_in (up_to a) w) ≡ ok after answer → ⊥
    pub all : (d : Did) → Mem d lost → T (chosen d) → Comes (came_in [] (up_to ys) w) d

  -- What the host must give: no redo is refused 10 while fewer are live than were before the picked cut.
  abbrev pub Roomy : H.World → (List H.Move → List H.Move) → List H.Move → State → Type 0
  Roomy w up_to ys before =
      (a : List H.Move) (x : H.Move) (b : List H.Move) (line : List ℕ) → ys ≡ a ++ x ∷ b → H.own x ≡ some (Redo line) →
      live (H.site (run_in (up_to a) w)) < live before → H.reply x (run_in (up_to a) w) ≡ refused TableFull → ⊥

  -- A list of moves as the recovery promise asks, from a site just opened or restarted: `xs`, the picked cut `x`, `ys`.
  pub record ListIn (chosen : Did → Bool) : Type 0 where
    pub m : ℕ
    pub start : H.World
    pub begins : Start m (H.site start)
    pub xs : List H.Move
    pub x : H.Move
    pub k : ℕ
    pub room : ℕ
    pub ys : List H.Move
    pub after : State
    pub plays : Playing (xs ++ x ∷ ys) start
    pub fair : FairIn (counted_in m xs start) k room x (run_in xs start) after
    pub asked : AskedIn m start (λ a. xs ++ x ∷ a) ys (lost_by (H.site (run_in xs start)) after) chosen
    pub roomy : Roomy start (λ a. xs ++ x ∷ a) ys (H.site (run_in xs start))

  -- the site just before the picked cut, and at the end
  abbrev pub before_cut : {chosen : Did → Bool} → ListIn chosen → State
  before_cut l = H.site (run_in l.xs l.start)

  abbrev pub at_end : {chosen : Did → Bool} → ListIn chosen → State
  at_end l = H.site (run_in (l.xs ++ l.x ∷ l.ys) l.start)

  -- 01's claim
  abbrev pub HostClaim : Type 0
  HostClaim =
      (chosen : Did → Bool) (l : ListIn chosen) →
      Recovered (before_cut l) l.after (lost_by (before_cut l) l.after) chosen (came_in [] (l.xs ++ l.x ∷ l.ys) l.start) (at_end l)

  -- and (n)'s
  abbrev pub HostArrival : Type 0
  HostArrival = (l : ListIn every) → SameWork (before_cut l).log (at_end l).log
