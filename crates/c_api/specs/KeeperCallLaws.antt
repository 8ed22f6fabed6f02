-- Laws of a keeper's calls over raw bytes.
use Rattle.std.specs.Prelude.{ℕ, ◌+◌, ◌≤◌, ◌≡◌, refl, Bool, true, false, List, ◌++◌, length, drop, Option as Held, Some, None, Result, Ok, Err, MatchResult, IsOkAnd}
use Rattle.std.proofs.Math.Path.{ap}
use Rattle.std.proofs.Common.{ap₂, sym, subst, ◌∙◌, arith, take-append-drop, eq-eqb, ne_eqb}
use Rattle.std.proofs.Math.Option.{Option, none, some}
use Rattle.forms.specs.Limits.{history_limit}
use Rattle.forms.specs.declared.Refusal.{Refusal}
use Rattle.rules.specs.Log.{dids_text}
use Rattle.rules.specs.Keeper as book
use Rattle.rules.specs.Keeper.{KeeperReply, kept_bytes, handed_out, hand_out_refusal}
use Rattle.keeper.specs.declared.Keeper.{Keeper}
use Rattle.keeper.specs.Model.{keeper_view, ValidKeeper, resumable, resumed_of, KeeperDoes, keeper_of, hand_answer, HandsOut}
use Rattle.keeper.specs.WalkLaws.{holds-now, used_is}
use Rattle.keeper.specs.ResumeLaws.{resumable_valid}
use Rattle.forms.specs.Refusals.{number_of}
use Rattle.c_api.specs.Codes.{replied_number}
use Rattle.c_api.specs.KeeperCalls.{keeper_in, used_in, reply_number, reply_bytes, Replies, handed_number}
use Rattle.c_api.specs.KeeperCalls.{HandsOver}

-- ### Whether a keeper is taken up

-- A keeper that was taken up.
pub record TakenUp (used : ℕ) (bytes : List ℕ) (k : Keeper) : Type 0 where
  pub test : resumable used bytes ≡ true
  pub same : k ≡ record { used = used }
  pub valid : ValidKeeper k bytes

pub taken_up : (used : ℕ) (bytes : List ℕ) (k : Keeper) (r : Held Keeper) → r ≡ resumed_of (resumable used bytes) used → r ≡ Some k →
    TakenUp used bytes k
unfolding resumed_of
taken_up used bytes k r e f = go (resumable used bytes) refl (sym f ∙ e)
  where
    go : (b : Bool) → resumable used bytes ≡ b → Some k ≡ resumed_of b used → TakenUp used bytes k
    go true t q =
        let same : k ≡ record { used = used } = cc in
        record { test = t; same = same; valid = subst (λ (x : Keeper). ValidKeeper x bytes) (sym same) (resumable_valid used bytes t) }
    go false t q = let z : ◌≡◌ {A = ℕ} 0 1 = cc in absurd (omega arith)

pub not_taken_up : (used : ℕ) (bytes : List ℕ) (r : Held Keeper) → r ≡ resumed_of (resumable used bytes) used → r ≡ None →
    resumable used bytes ≡ false
unfolding resumed_of
not_taken_up used bytes r e f = go (resumable used bytes) (sym f ∙ e)
  where
    go : (b : Bool) → None ≡ resumed_of b used → b ≡ false
    go true q = let z : ◌≡◌ {A = ℕ} 0 1 = cc in absurd (omega arith)
    go false q = refl

pub replies_none : (used : ℕ) (old : List ℕ) (reply : KeeperReply) → resumable used old ≡ false → Replies used old reply 999 old
replies_none used old reply e = record { answer = rw e; bytes = rw e }

-- ### A keeper after a call

-- the bytes in use are the kept lines, and the others did not change
kept_whole : (k : Keeper) (new old : List ℕ) (b : book.Keeper) → ValidKeeper k new → keeper_view k new ≡ b →
    drop k.used new ≡ drop k.used old
    → (k.used ≡ length (kept_bytes b)) × (new ≡ kept_bytes b ++ drop (length (kept_bytes b)) old)
unfolding kept_bytes
kept_whole k new old b v e past =
    let h = holds-now k new v in
    let n : k.used ≡ length (dids_text b.lines) = used_is k new (keeper_view k new).lines h
    ∙ ap (λ (x : book.Keeper). length (dids_text x.lines)) e in (
      n,
      sym (take-append-drop k.used new)
          ∙ ap₂ (λ (x y : List ℕ). x ++ y) (h.text ∙ ap (λ (x : book.Keeper). dids_text x.lines) e)
          (past ∙ ap (λ (i : ℕ). drop i old) n),
    )

-- The bytes in use after a call, by `map`.
pub used_mapped : (P : Keeper → ℕ → Type 0) (r : Result Keeper Refusal) (q : Result ℕ Refusal) →
    MatchResult r (λ k. IsOkAnd q (λ n. P k n)) (λ e. q ≡ Err e) → ((k : Keeper) (n : ℕ) → P k n → n ≡ k.used) → q ≡ used_in r
used_mapped P (Ok k) (Ok n) h f = ap Ok (f k n h)
used_mapped P (Ok k) (Err e) h f = absurd h
used_mapped P (Err e) q h f = h

module _ (used : ℕ) (old : List ℕ) (k : Keeper) (up : TakenUp used old k) where
  -- What a call does is what is replied.
  pub replies_does : (f : book.Keeper → KeeperReply) (r : Result Keeper Refusal) (new : List ℕ) →
      KeeperDoes k old (f (keeper_view k old)) r new → (n : ℕ) → n ≡ replied_number (used_in r) →
      Replies used old (f (keeper_in used old)) n new
  unfolding replied_number reply_number reply_bytes
  replies_does f r new d n e =
      let same : f (keeper_view k old) ≡ f (keeper_in used old) = ap (λ (x : Keeper). f (keeper_view x old)) up.same in
      go (f (keeper_in used old)) r (subst (λ (x : KeeperReply). KeeperDoes k old x r new) same d) e
    where
      go : (reply : KeeperReply) (r : Result Keeper Refusal) → KeeperDoes k old reply r new → n ≡ replied_number (used_in r) →
          Replies used old reply n new
      go (book.refused q) (Err p) x e =
          let same : p ≡ q = cc (x.answer) in
          record { answer = e ∙ ap number_of same ∙ rw up.test refl; bytes = x.after.refused.1 ∙ rw up.test refl }
      go (book.refused q) (Ok next) x e = let z : ◌≡◌ {A = ℕ} 0 1 = cc (x.answer) in absurd (omega arith)
      go (book.ok b) (Err p) x e = let z : ◌≡◌ {A = ℕ} 0 1 = cc (x.answer) in absurd (omega arith)
      go (book.ok b) (Ok next) x e =
          let w = kept_whole next new old b x.after.valid x.after.lines x.after.past in
          record { answer = e ∙ ap (λ (i : ℕ). i + 1000) w.0 ∙ rw up.test refl; bytes = w.1 ∙ rw up.test refl }

  -- The bytes in use are within the buffer, after a refused call too.
  pub after_within : (reply : KeeperReply) (r : Result Keeper Refusal) (new : List ℕ) → KeeperDoes k old reply r new →
      (keeper_of k r).used ≤ length new
  after_within reply r new d = (holds-now (keeper_of k r) new d.after.valid).within

  pub does_within : (reply : KeeperReply) (r : Result Keeper Refusal) (new : List ℕ) → KeeperDoes k old reply r new →
      (n : ℕ) → used_in r ≡ Ok n → n ≤ length new
  does_within reply (Ok next) new d n e =
      let same : next.used ≡ n = cc in let w = (holds-now next new d.after.valid).within in omega (arith, w, same)
  does_within reply (Err q) new d n e = let z : ◌≡◌ {A = ℕ} 0 1 = cc in absurd (omega arith)

-- ### A hand-out

pub hands_none : (used : ℕ) (buf places old : List ℕ) → resumable used buf ≡ false → HandsOver used buf places old 999 old
hands_none used buf places old e = record { answer = rw e; bytes = rw e }

pub hands_not_sixteen : (used : ℕ) (buf places old : List ℕ) → resumable used buf ≡ true → (length places ≡ history_limit → ⊥) →
    HandsOver used buf places old 998 old
hands_not_sixteen used buf places old e h =
    record { answer = rw (e, ne_eqb (length places) history_limit h); bytes = rw (e, ne_eqb (length places) history_limit h) }

-- What is handed out is what is replied.
pub hands_over : (used : ℕ) (buf places old : List ℕ) (k : Keeper) → TakenUp used buf k → length places ≡ history_limit →
    (r : Result ℕ Refusal) (new : List ℕ) → HandsOut (keeper_view k buf) places old r new
    → (n : ℕ) → n ≡ replied_number r → HandsOver used buf places old n new
unfolding replied_number handed_number
hands_over used buf places old k up h r new d n e =
    let x : HandsOut (keeper_in used buf) places old r new = subst (λ (y : Keeper). HandsOut (keeper_view y buf) places old r new)
    up.same d in
    record {
      answer =
          e
          ∙ ap replied_number x.answer
          ∙ number (hand_out_refusal places (length old) (keeper_in used buf)) (handed_out places (keeper_in used buf))
          ∙ rw (up.test, eq-eqb (length places) history_limit h) refl;
      bytes = x.bytes ∙ rw (up.test, eq-eqb (length places) history_limit h) refl;
    }
  where
    number : (o : Option Refusal) (bytes : List ℕ) → replied_number (hand_answer o bytes) ≡ handed_number o bytes
    number (some q) bytes = refl
    number none bytes = refl
