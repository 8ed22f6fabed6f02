-- A did line has at least 22 bytes with its end, so a log of 65,536 bytes has at most 2,978 of them.
use Rattle.std.specs.Prelude.{◌≡◌, refl, List, [], ◌∷◌, ◌++◌, ℕ, ◌*◌, ◌≤◌, length}
use mathlib.Core.List.Memᴰ.{head as head_of}
use mathlib.Core.List.Memᴰ.{tail as Tail-of}
use mathlib.Core.List.{Memᴰ as Mem}
use Rattle.std.proofs.Common.{arith, length-append}
use Rattle.forms.specs.Decimal.{digits}
use Rattle.forms.specs.DecimalLaws.{digits-some}
use Rattle.forms.specs.Words.{bytes}
use Rattle.forms.specs.Forms.{Change, Did, Line, did_line, stable_line, field_text, done_rule_text, change_text, items_text, tail_text, list_text}
use Rattle.forms.specs.Forms.{did_text, line_text}
use Rattle.forms.specs.declared.DoneRule.{DoneRule}
use Rattle.forms.specs.declared.DoneRule.TheVariants.{DidInc, DidSet, DidNot}
use Rattle.rule_laws.specs.CheckLaws.{formed_changes}
use Rattle.rule_laws.specs.Good.{FormedDid}
use Rattle.rules.specs.Log.{dids, ended, lines_text}

field_long : (n : ℕ) → 2 ≤ length (field_text n)
unfolding field_text
field_long n = omega (arith, length-append (bytes " ") (digits n), digits-some n)

rule_long : (r : DoneRule) → length (done_rule_text r) ≡ 4
rule_long DidInc = refl
rule_long DidSet = refl
rule_long DidNot = refl

change_long : (c : Change) → 13 ≤ length (change_text c)
unfolding change_text
change_long c =
    let a = field_text c.history in
    let b = field_text c.version in
    let p = field_text c.place in
    let o = field_text c.operand in
    omega (
      arith,
      rule_long c.rule,
      field_long c.history,
      field_long c.version,
      field_long c.place,
      field_long c.operand,
      length-append (done_rule_text c.rule) (a ++ (b ++ (p ++ (o ++ bytes ")")))),
      length-append a (b ++ (p ++ (o ++ bytes ")"))),
      length-append b (p ++ (o ++ bytes ")")),
      length-append p (o ++ bytes ")"),
      length-append o (bytes ")"),
    )

tail_long : (x : Change) (xs : List Change) → 15 ≤ length (tail_text change_text (x ∷ xs))
unfolding tail_text
tail_long x xs =
    omega (
      arith,
      change_long x,
      length-append (bytes " ") (change_text x ++ (items_text change_text xs ++ bytes ")")),
      length-append (change_text x) (items_text change_text xs ++ bytes ")"),
      length-append (items_text change_text xs) (bytes ")"),
    )

did_long : (n : ℕ) (d : Did) → FormedDid n d → 22 ≤ length (ended (did_text d))
unfolding ended did_text list_text
did_long n d F = go d.changes (formed_changes n d.changes F.passes).some
  where
    go : (xs : List Change) → 1 ≤ length xs → 22 ≤ length ((bytes "(did " ++ (digits d.id ++ tail_text change_text xs)) ++ (10 ∷ []))
    go [] h = absurd (omega arith)
    go (x ∷ xs) h =
        omega (
          arith,
          tail_long x xs,
          digits-some d.id,
          length-append (bytes "(did " ++ (digits d.id ++ tail_text change_text (x ∷ xs))) (10 ∷ []),
          length-append (bytes "(did ") (digits d.id ++ tail_text change_text (x ∷ xs)),
          length-append (digits d.id) (tail_text change_text (x ∷ xs)),
        )

pub dids_most : (n : ℕ) (lines : List Line) → ((d : Did) → Mem d (dids lines) → FormedDid n d) →
    22 * length (dids lines) ≤ length (lines_text lines)
unfolding lines_text line_text
dids_most n [] F = omega arith
dids_most n (did_line d ∷ ls) F =
    omega (
      arith,
      dids_most n ls (λ e m. F e (Tail-of m)),
      did_long n d (F d (head_of refl)),
      length-append (ended (did_text d)) (lines_text ls),
    )
dids_most n (stable_line k ∷ ls) F = omega (arith, dids_most n ls F, length-append (ended (line_text (stable_line k))) (lines_text ls))
