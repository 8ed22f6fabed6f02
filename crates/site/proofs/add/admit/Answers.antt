-- The checks are asked for in the definition's order; once 2 to 5 have passed, what is held up to the count is just the updates, so the entry
-- made of them is theirs, and can be asked.
use Rattle.std.specs.Prelude.{Ok, ◌≡◌, ℕ, List, length}
use Rattle.std.proofs.lemmas.Result.{err_from_is_err_and}
use Rattle.std.proofs.Common.{rules, sym, ◌∙◌}
use Rattle.std.proofs.Math.Option.{none}
use Rattle.forms.specs.Forms.{Update}
use Rattle.forms.specs.Limits.{update_limit}
use Rattle.forms.specs.Held.{AskedHeld}
use Rattle.rules.specs.Checks.{updates_refusal}
use Rattle.history.specs.Asking.{verdict_of, HoldsUpdates}
use Rattle.history.specs.AskingLaws.{usable_held}
use Rattle.site.specs.Trim.{updates_held}
use Rattle.site.specs.TrimLaws.{holds_these}
use Rattle.site.specs.SeenLaws.{passes_is, refused_is, out_of_turn, misformed, formed_then}
use Rattle.site.specs.AddLaws.{asked_enters, add_refusal_is, entry_is}
use Rattle.site.proofs.add.admit.Goals as goal

-- the updates passed the checks 2 to 5
formed : (n : ℕ) (a : AskedHeld) → length a.first ≡ update_limit →
    ((us : List Update) → HoldsUpdates a us → Ok tt ≡ verdict_of (updates_refusal n us)) → updates_refusal n (updates_held a) ≡ none
formed n a long told = passes_is _ (told _ (holds_these a long))

pub returns-then-seen : goal.returns-then-seen
returns-then-seen c = λ full st s. out_of_turn _ _ _ _ (add_refusal_is _ _ _ _ full st s) c.if-seen.true

pub returns-in_err-asked_refusal : goal.returns-in_err-asked_refusal
returns-in_err-asked_refusal c =
    let long : length c.args.asked.first ≡ update_limit = search rules in
    let p = err_from_is_err_and c.from_residual.result c.from_residual.ensures.1 in
    rw (p.1, p.2) (λ full st s.
    misformed _ _ _ _ (add_refusal_is _ _ _ _ full st s) c.if-seen.false _
    (refused_is _ _ (c.in_err-asked_refusal.ensures _ (holds_these c.args.asked long))))

pub entry_of_asked-entry-requires : goal.entry_of_asked-entry-requires
entry_of_asked-entry-requires c =
    let long : length c.args.asked.first ≡ update_limit = search rules in
    usable_held c.args.seen.count c.args.asked _ c.requires (holds_these c.args.asked long) long
    (formed _ _ long c.in_ok-asked_refusal.ensures)

pub returns-in_err-entry_refusal : goal.returns-in_err-entry_refusal
returns-in_err-entry_refusal c =
    let long : length c.args.asked.first ≡ update_limit = search rules in
    let p = err_from_is_err_and c.from_residual-in_err-entry_refusal.result c.from_residual-in_err-entry_refusal.ensures.1 in
    let f = formed _ _ long c.in_ok-asked_refusal.ensures in
    let e =
    asked_enters c.args.id c.args.seen.count c.args.asked _ (holds_these c.args.asked long) f _
    c.entry_of_asked-entry.ensures in
    rw (p.1, p.2) (λ full st s.
    formed_then _ _ _ _ (add_refusal_is _ _ _ _ full st s) c.if-seen.false f
    ∙ (sym (entry_is _ _ _ _ full st s f _ e) ∙ refused_is _ _ c.in_err-entry_refusal.ensures))

pub returns : goal.returns
returns c =
    let long : length c.args.asked.first ≡ update_limit = search rules in
    λ full st s.
    let f = formed _ _ long c.in_ok-asked_refusal.ensures in
    let e =
    asked_enters c.args.id c.args.seen.count c.args.asked _ (holds_these c.args.asked long) f _
    c.entry_of_asked-entry.ensures in (
      formed_then _ _ _ _ (add_refusal_is _ _ _ _ full st s) c.if-seen.false f
          ∙ (sym (entry_is _ _ _ _ full st s f _ e) ∙ passes_is _ c.in_ok-entry_refusal.ensures),
      e,
    )
