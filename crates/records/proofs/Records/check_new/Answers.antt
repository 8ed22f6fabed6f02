-- At each return the tests that led there say which of 7, 10, 18 and 19 is the first that holds, or that none does.
use Rattle.std.proofs.Common.{◌≡◌, sym, ◌∙◌, refl, true, false}
use Rattle.std.specs.Prelude.{Option, Some, None, is_some}
use Rattle.rules.specs.Records.{sites_of}
use Rattle.records.specs.CallLaws.{check-again, check-full, check_wrong, check_outside, check_ok, below_limit}
use Rattle.records.proofs.Records.check_new.Goals as goal

-- a place that was looked for is there, or it is not
there : {A : Type 0} (o : Option A) → is_some o ≡ true → (a : A) × (o ≡ Some a)
there (Some a) e = (a, refl)
there None e = absurd (cc)

nowhere : {A : Type 0} (o : Option A) → is_some o ≡ false → o ≡ None
nowhere (Some a) e = absurd (cc)
nowhere None e = refl

pub returns-then-is_some : goal.returns-then-is_some
returns-then-is_some c =
    let a = c.args in
    let at = there c.find.result (sym c.is_some.ensures ∙ c.if-is_some.true) in
    check-again a.self a.words.now c.requires a.id (sites_of a.sent) (sites_of a.full) a.threshold at.0 (sym c.find.ensures ∙ at.1)

pub returns-then-self-eq-LIMIT : goal.returns-then-self-eq-LIMIT
returns-then-self-eq-LIMIT c =
    let a = c.args in
    check-full a.self a.words.now c.requires a.id (sites_of a.sent) (sites_of a.full) a.threshold
    (sym c.find.ensures ∙ nowhere c.find.result (sym c.is_some.ensures ∙ c.if-is_some.false)) c.if-self-eq-LIMIT.true

pub returns-then-is_wrong : goal.returns-then-is_wrong
returns-then-is_wrong c =
    let a = c.args in
    check_wrong a.self a.words.now c.requires a.id (sites_of a.sent) (sites_of a.full) a.threshold
    (sym c.find.ensures ∙ nowhere c.find.result (sym c.is_some.ensures ∙ c.if-is_some.false))
    (below_limit a.self.count c.requires.few c.if-self-eq-LIMIT.false)
    (sym c.is_wrong.ensures ∙ c.if-is_wrong.true)

pub returns-then-is_outside : goal.returns-then-is_outside
returns-then-is_outside c =
    let a = c.args in
    check_outside a.self a.words.now c.requires a.id (sites_of a.sent) (sites_of a.full) a.threshold
    (sym c.find.ensures ∙ nowhere c.find.result (sym c.is_some.ensures ∙ c.if-is_some.false))
    (below_limit a.self.count c.requires.few c.if-self-eq-LIMIT.false)
    (sym c.is_wrong.ensures ∙ c.if-is_wrong.false)
    (sym c.is_outside.ensures ∙ c.if-is_outside.true)

pub returns : goal.returns
returns c =
    let a = c.args in
    check_ok a.self a.words.now c.requires a.id (sites_of a.sent) (sites_of a.full) a.threshold
    (sym c.find.ensures ∙ nowhere c.find.result (sym c.is_some.ensures ∙ c.if-is_some.false))
    (below_limit a.self.count c.requires.few c.if-self-eq-LIMIT.false)
    (sym c.is_wrong.ensures ∙ c.if-is_wrong.false)
    (sym c.is_outside.ensures ∙ c.if-is_outside.false)
