-- The marking sheet as the code writes it: `run` over a whole input, and `feed` over an input in whatever chunks.
use Rattle.std.specs.Prelude.{ℕ, ◌≡◌, Bool, true, List, ◌++◌, length, drop}
use Rattle.std.proofs.Common.{ap, subst, ◌∙◌}
use Rattle.std.proofs.Math.Option.{none}
use Rattle.rules.specs.Book.{Cell}
use Rattle.rules.specs.State.{State}
use Rattle.rules.specs.Session.{replies, rest_reply}
use Rattle.session.specs.Feeding.{joined}
use Rattle.site.specs.Model.{Lent}
use Rattle.stream.specs.declared.RunResult.{RunResult}
use Rattle.stream.specs.declared.Stream.{Stream}
use Rattle.stream.specs.Model.{StartsStream, RunsIf, RunsWhole, Runs}
use Rattle.stream.specs.ChunkLaws.{FeedCall, FedBy, used_in, written_in, WholeInput, calls-whole}
use Rattle.end_to_end.specs.Page.{Text, asking, sheet, Prints}

-- What `run` leaves in the buffer for replies, where they fit: the replies to the lines, then the marking sheet, then the buffer as it was.
pub run_page : (input old : List ℕ) (r : RunResult) (new out page : List ℕ) → Runs input old r new out page → r.whole ≡ true →
    (lines : List (List ℕ)) (h : ℕ) (c : Cell) (site : State) → Prints (length old) lines h c site → Text input (asking lines h) →
    page ≡ (replies (length old) lines none ++ sheet h c site) ++ drop r.written out
run_page input old r new out page f e lines h c site p t =
    let whole : RunsWhole input old r out page = subst (λ (b : Bool). RunsIf b input old r out page) e f.replies in
    whole.replies.bytes ∙ ap (λ (text : List ℕ). text ++ drop r.written out) (p input t)

-- What calls of `feed` from the start have written, one behind the other, and the reply to the unended rest: the replies to the lines, then
-- the marking sheet, in whatever chunks the input came.
pub fed_page : (cs : List FeedCall) (s : Stream) (bytes : Lent) → StartsStream s bytes → FedBy s bytes cs →
    (lines : List (List ℕ)) (h : ℕ) (c : Cell) (site : State) → Prints (length bytes.log) lines h c site →
    Text (joined (used_in cs)) (asking lines h) →
    (w : WholeInput (length bytes.log) s cs) ×
    (written_in cs ++ rest_reply w.rest ≡ replies (length bytes.log) lines none ++ sheet h c site)
fed_page cs s bytes start f lines h c site p t =
    let w = calls-whole cs s bytes start f in
    (w, w.text ∙ p (joined (used_in cs)) t)
