-- Chunks fed one after the other give the replies of the whole.
use Rattle.std.specs.Prelude.{ℕ, zero, suc, ◌+◌, ◌-◌, ◌≤◌, ◌<◌, ◌≡◌, refl, length, take, drop}
use Rattle.std.proofs.Common.{arith, ◌∙◌, length-drop, take_at, length-take-le}
use Rattle.std.proofs.Math.Path.{sym, ap, ap₂, subst}
use mathlib.Core.List.{List, [], ◌∷◌, ◌++◌}
use Rattle.forms.specs.Limits.{reply_limit}
use Rattle.rules.specs.Session.{rest_reply, session_in}
use Rattle.site.specs.Model.{Lent}
use Rattle.session.specs.Model.{session_view}
use Rattle.session.specs.Feeding.{Progress, at_start, fed, fed_all, joined, Begins}
use Rattle.session.specs.FeedingLaws.{chunks, whole-input, fed_none}
use Rattle.stream.specs.declared.Stream.{Stream}
use Rattle.stream.specs.declared.FeedResult.{FeedResult}
use Rattle.stream.specs.Model.{ValidStream, standing, StartsStream, Fronts, Feeds}
use Rattle.stream.specs.LineLaws.{some-line}

-- ### Calls of feed

-- One call: the chunk, what it gave, what is lent after it, and the buffer of replies before and after it.
pub record FeedCall : Type 0 where
  pub chunk : List ℕ
  pub result : FeedResult
  pub lent : Lent
  pub out : List ℕ
  pub page : List ℕ

-- Calls one after the other: each takes the stream and what is lent to it as the one before left them.
abbrev pub FedBy : Stream → Lent → List FeedCall → Type 0
FedBy s bytes [] = Unit {0}
FedBy s bytes (c ∷ cs) = Feeds s bytes c.chunk c.result c.lent c.out c.page × FedBy c.result.stream c.lent cs

-- the bytes that each call has used
unfoldable pub used_in : List FeedCall → List (List ℕ)
used_in [] = []
used_in (c ∷ cs) = take c.result.used c.chunk ∷ used_in cs

-- what the calls have written, one behind the other
unfoldable pub written_in : List FeedCall → List ℕ
written_in [] = []
written_in (c ∷ cs) = take c.result.written c.page ++ written_in cs

-- the stream after the calls
unfoldable pub stream_after : Stream → List FeedCall → Stream
stream_after s [] = s
stream_after s (c ∷ cs) = stream_after c.result.stream cs

-- ### What they have written

-- the replies begin with those of before
abbrev quiet : Progress → Progress
quiet g = record { begun = g.begun; session = g.session; replied = [] }

replied-behind : (room : ℕ) (cs : List (List ℕ)) (g : Progress) →
    (fed_all room cs g).replied ≡ g.replied ++ (fed_all room cs (quiet g)).replied
unfolding fed
replied-behind room cs g =
    ap (λ (x : Progress). x.replied) (chunks room cs g) ∙ sym (ap (λ (x : Progress). g.replied ++ x.replied) (chunks room cs (quiet g)))

begun-same : (room : ℕ) (cs : List (List ℕ)) (g : Progress) → (fed_all room cs g).begun ≡ (fed_all room cs (quiet g)).begun
unfolding fed
begun-same room cs g = ap (λ (x : Progress). x.begun) (chunks room cs g) ∙ sym (ap (λ (x : Progress). x.begun) (chunks room cs (quiet g)))

-- What a stream that has come to g's session and unended line is.
comes_quiet : (g : Progress) (s : Stream) (bytes : Lent) → session_view s.session bytes ≡ g.session →
    quiet g ≡ standing s g.begun bytes
comes_quiet g s bytes e = λ i. record { begun = g.begun; session = sym e i; replied = [] }

front_is : (text out page : List ℕ) (n : ℕ) → Fronts text out page n → take n page ≡ text
front_is text out page n f = ap (λ (l : List ℕ). take n l) f.bytes ∙ take_at text (drop n out) n (sym f.count)

-- What the calls have written is what the specification replies to the bytes that they have used, and the unended line is the
-- specification's.
pub record RepliedSoFar (room : ℕ) (s : Stream) (g : Progress) (cs : List FeedCall) : Type 0 where
  pub text : written_in cs ≡ (fed_all room (used_in cs) g).replied
  pub begun : Begins (stream_after s cs).begun (fed_all room (used_in cs) g).begun

module _ (c : FeedCall) (cs : List FeedCall) (s : Stream) (line : List ℕ) (bytes : Lent)
    (f : Feeds s bytes c.chunk c.result c.lent c.out c.page)
    (h : Begins s.begun line) where
  -- after the first call
  abbrev next : Progress
  next = fed (length bytes.log) (take c.result.used c.chunk) (standing s line bytes)

  abbrev so_far : Progress
  so_far = standing c.result.stream next.begun c.lent

  same : fed_all (length c.lent.log) (used_in cs) so_far ≡ fed_all (length bytes.log) (used_in cs) (quiet next)
  same = ap₂ (λ (k : ℕ) (p : Progress). fed_all k (used_in cs) p) f.room
      (sym (comes_quiet next c.result.stream c.lent (f.does line h).session))

  replied-more : RepliedSoFar (length c.lent.log) c.result.stream so_far cs →
      RepliedSoFar (length bytes.log) s (standing s line bytes) (c ∷ cs)
  unfolding fed_all used_in written_in stream_after
  replied-more later =
      record {
        text =
            ap₂ (λ (a b : List ℕ). a ++ b) (front_is next.replied c.out c.page c.result.written (f.does line h).replies)
            (later.text ∙ ap (λ (p : Progress). p.replied) same)
            ∙ sym (replied-behind (length bytes.log) (used_in cs) next);
        begun =
            subst (λ (l : List ℕ). Begins (stream_after c.result.stream cs).begun l)
            (ap (λ (p : Progress). p.begun) same ∙ sym (begun-same (length bytes.log) (used_in cs) next)) later.begun;
      }

pub calls-replied : (cs : List FeedCall) (s : Stream) (line : List ℕ) (bytes : Lent) → Begins s.begun line → FedBy s bytes cs →
    RepliedSoFar (length bytes.log) s (standing s line bytes) cs
unfolding fed_all used_in written_in stream_after
calls-replied [] s line bytes h f = record { text = refl; begun = h }
calls-replied (c ∷ cs) s line bytes h f =
    replied-more c cs s line bytes f.0 h
    (calls-replied cs c.result.stream (next c cs s line bytes f.0 h).begun c.lent (f.0.does line h).begun f.1)

-- The calls have used the input, in whatever chunks: what they have written, and the reply to the unended rest, is the specification's
-- session.
pub record WholeInput (room : ℕ) (s : Stream) (cs : List FeedCall) : Type 0 where
  pub rest : List ℕ
  pub begun : Begins (stream_after s cs).begun rest
  pub text : written_in cs ++ rest_reply rest ≡ session_in room (joined (used_in cs))

pub calls-whole : (cs : List FeedCall) (s : Stream) (bytes : Lent) → StartsStream s bytes → FedBy s bytes cs →
    WholeInput (length bytes.log) s cs
calls-whole cs s bytes starts f =
    record {
      rest = (fed_all (length bytes.log) (used_in cs) at_start).begun;
      begun = r.begun;
      text = ap (λ (l : List ℕ). l ++ rest_reply (fed_all (length bytes.log) (used_in cs) at_start).begun) r.text
          ∙ sym (whole-input (length bytes.log) (used_in cs));
    }
  where
    r : RepliedSoFar (length bytes.log) s at_start cs
    r = subst (λ (g : Progress). RepliedSoFar (length bytes.log) s g cs) starts.is (calls-replied cs s [] bytes starts.begun f)

-- ### Each call moves on

-- With 2,741 bytes for replies, a call uses something of a chunk that is not empty.
pub moves : (s : Stream) (old : Lent) (chunk : List ℕ) (r : FeedResult) (new : Lent) (out page : List ℕ) → ValidStream s old →
    Feeds s old chunk r new out page →
    reply_limit ≤ length out → 0 < length chunk → 0 < r.used
moves s old chunk r new out page v f long some = by_used r.used refl
  where
    -- nothing is written where nothing is used
    none : r.used ≡ 0 → r.written ≡ 0
    none e =
        let l = some-line s.begun v.begun in
        let x = (f.does l.line l.begins).replies.count in
        x ∙ ap (λ (k : ℕ). length (fed (length old.log) (take k chunk) (standing s l.line old)).replied) e
        ∙ ap (λ (p : Progress). length p.replied) (fed_none (length old.log) (standing s l.line old))

    by_used : (k : ℕ) → r.used ≡ k → 0 < r.used
    by_used zero e = absurd (omega (arith, f.stops (omega (arith, e, some)), none e, long))
    by_used (suc k) e = omega (arith, e)

-- The same for what is left of a chunk: some of it is used, and not more.
pub record Moves (chunk : List ℕ) (at used : ℕ) : Type 0 where
  pub some : 0 < used
  pub within : at + used ≤ length chunk

pub moves_on : (s : Stream) (old : Lent) (chunk : List ℕ) (at : ℕ) (r : FeedResult) (new : Lent) (out page : List ℕ) → ValidStream s old →
    Feeds s old (take (length chunk - at) (drop at chunk)) r new out page → reply_limit ≤ length out → at < length chunk →
    Moves chunk at r.used
moves_on s old chunk at r new out page v f long lt =
    record {
      some = moves s old (take (length chunk - at) (drop at chunk)) r new out page v f long (omega (arith, size, lt));
      within = let w = f.within in omega (arith, size, lt, w);
    }
  where
    size : length (take (length chunk - at) (drop at chunk)) ≡ length chunk - at
    size = length-take-le (length chunk - at) (drop at chunk) (let d = length-drop at chunk in omega (arith, d))
