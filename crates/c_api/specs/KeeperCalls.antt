-- What the calls of a keeper give over raw bytes, by the specification's keeper.
use Rattle.std.specs.Prelude.{ℕ, ◌+◌, ◌≡◌, cond, ◌&&◌, List, ◌++◌, eqb, length, drop, Result, Ok, Err}
use Rattle.std.proofs.Math.Option.{Option, none, some}
use Rattle.forms.specs.Refusals.{number_of}
use Rattle.forms.specs.Limits.{history_limit}
use Rattle.forms.specs.declared.Refusal.{Refusal}
use Rattle.rules.specs.Keeper as book
use Rattle.rules.specs.Keeper.{KeeperReply, kept_bytes, handed_out, hand_out_refusal}
use Rattle.keeper.specs.declared.Keeper.{Keeper}
use Rattle.keeper.specs.Model.{keeper_view, resumable, hand_bytes}

-- The specification's keeper that the first bytes of a buffer are, where they are one.
abbrev pub keeper_in : ℕ → List ℕ → book.Keeper
keeper_in used bytes = keeper_view (record { used = used }) bytes

-- the bytes in use after a call, or its refusal
abbrev pub used_in : Result Keeper Refusal → Result ℕ Refusal
used_in (Ok k) = Ok k.used
used_in (Err q) = Err q

-- A refusal's number, or 1,000 more than the bytes in use.
unfoldable pub reply_number : KeeperReply → ℕ
reply_number (book.refused r) = number_of r
reply_number (book.ok k) = length (kept_bytes k) + 1000

-- The buffer after a call: a refused one leaves every byte, an accepted one every byte past those in use.
unfoldable pub reply_bytes : KeeperReply → List ℕ → List ℕ
reply_bytes (book.refused r) old = old
reply_bytes (book.ok k) old = kept_bytes k ++ drop (length (kept_bytes k)) old

-- A call that may change a keeper: 999, and no byte changed, where the first bytes are not what a keeper keeps.
pub record Replies (used : ℕ) (old : List ℕ) (reply : KeeperReply) (n : ℕ) (new : List ℕ) : Type 0 where
  pub answer : n ≡ cond (resumable used old) (reply_number reply) 999
  pub bytes : new ≡ cond (resumable used old) (reply_bytes reply old) old

-- A refusal's number, or 1,000 more than the bytes handed out.
unfoldable pub handed_number : Option Refusal → List ℕ → ℕ
handed_number (some r) bytes = number_of r
handed_number none bytes = length bytes + 1000

-- Handing out: 999 as above, then 998 where the places are not sixteen; neither changes a byte.
pub record HandsOver (used : ℕ) (buf places old : List ℕ) (n : ℕ) (new : List ℕ) : Type 0 where
  pub answer : n ≡
      cond (resumable used buf)
      (cond (eqb (length places) history_limit)
      (handed_number (hand_out_refusal places (length old) (keeper_in used buf)) (handed_out places (keeper_in used buf))) 998)
      999
  pub bytes : new ≡
      cond (resumable used buf && eqb (length places) history_limit)
      (hand_bytes (hand_out_refusal places (length old) (keeper_in used buf)) (handed_out places (keeper_in used buf)) old)
      old
