-- The forms of a session's input: what is written is read back, and each line that is read is the one way to write what it means.
use Rattle.std.specs.Prelude.{ℕ, ◌≤◌, ◌<◌, ◌≡◌, List, [], ◌++◌, length}
use Rattle.std.proofs.Math.Path.{refl, ap, subst}
use Rattle.std.proofs.Common.{ap₂, sym, ◌∙◌, append_assoc, append-nil, ⊎_elim, arith}
use Rattle.forms.specs.Limits.{line_limit}
use Rattle.forms.specs.Decimal.{digits, number, top}
use Rattle.forms.specs.Decimal.Step.{got, bad}
use Rattle.forms.specs.DecimalLaws.{number-written}
use Rattle.forms.specs.Words.{bytes, word, word-written, word_read}
use Rattle.forms.specs.Forms.{Update, Did, Command, SiteOf, Add, Finish, Withdraw, Persistent, Stable, Show}
use Rattle.forms.specs.Forms.{Cut, Redo, End, field_text, tail_text, one_text, rule_text, update_text, site_text}
use Rattle.forms.specs.Forms.{did_text, redo_text, command_text}
use Rattle.forms.specs.Reading.{choose, field, rule, update, tail, did, one, add_form, redo_form, numbered, command, read_command}
use Rattle.forms.specs.Writable.{WritableUpdate, WritableCommand}
use Rattle.forms.specs.ReadingLaws.{never, bind_then, choose_read, or_else_read, spaced, closing, field-written}
use Rattle.forms.specs.ReadingLaws.{field_read, Item, tail_written, list_text_lem, list_id, list_read, one_text_lem}
use Rattle.forms.specs.ReadingLaws.{one_read, read_whole-written, read_whole_read}
use Rattle.forms.specs.DidLaws.{did-written, did_read}
use Rattle.forms.specs.Plain.{Plain}
use Rattle.forms.specs.PlainLaws.{command_plain}
use Rattle.forms.specs.declared.Rule.{Rule}
use Rattle.forms.specs.declared.Rule.TheVariants.{Inc, Set, Not, Unk}

-- ### The rule of an update

pub rule-written : (r : Rule) (rest : List ℕ) → rule (rule_text r ++ rest) ≡ got r rest
unfolding rule word
rule-written Inc rest = refl
rule-written Set rest = refl
rule-written Not rest = refl
rule-written Unk rest = refl

pub rule_read : (l : List ℕ) (r : Rule) (rest : List ℕ) → rule l ≡ got r rest → l ≡ rule_text r ++ rest
unfolding rule
rule_read l r rest h =
    ⊎_elim (λ p. that Inc p.0 p.1) (λ h₁.
    ⊎_elim (λ p. that Set p.0 p.1) (λ h₂.
    ⊎_elim (λ p. that Not p.0 p.1) (λ h₃.
    ⊎_elim (λ p. that Unk p.0 p.1) (λ h₄. never h₄)
    (choose_read (word (bytes "(unk") l) Unk bad r rest h₃))
    (choose_read (word (bytes "(not") l) Not _ r rest h₂))
    (choose_read (word (bytes "(set") l) Set _ r rest h₁))
    (choose_read (word (bytes "(inc") l) Inc _ r rest h)
  where
    that : (q : Rule) → word (rule_text q) l ≡ got tt rest → q ≡ r → l ≡ rule_text r ++ rest
    that q w e = word_read (rule_text q) l tt rest w ∙ ap (λ (x : Rule). rule_text x ++ rest) e

-- ### An update

-- what stands behind the rule
unfoldable fields_of : Update → List ℕ → List ℕ
fields_of x rest = field_text x.history ++ (field_text x.version ++ (field_text x.operand ++ closing rest))

update_text_lem : (x : Update) (rest : List ℕ) → update_text x ++ rest ≡ rule_text x.rule ++ fields_of x rest
unfolding update_text fields_of
update_text_lem x rest = simp append_assoc

update-written : (x : Update) (rest : List ℕ) → WritableUpdate x → update (update_text x ++ rest) ≡ got x rest
unfolding update
update-written x rest f =
    rw (update_text_lem x rest, rule-written x.rule (fields_of x rest))
    (unfold fields_of in
    rw (
      field-written x.history _ f.history (spaced x.version _),
      field-written x.version _ f.version (spaced x.operand _),
      field-written x.operand (bytes ")" ++ rest) f.operand refl,
      word-written (bytes ")") rest,
    ))

abbrev update_from : Rule → ℕ → ℕ → ℕ → Update
update_from r h v o = record { rule = r; history = h; version = v; operand = o }

joined : (r : Rule) (h v o : ℕ) (l₀ l₁ l₂ l₃ l₄ : List ℕ) → l₀ ≡ field_text h ++ l₁ → l₁ ≡ field_text v ++ l₂ → l₂ ≡ field_text o ++ l₃
    → l₃ ≡ bytes ")" ++ l₄
    → rule_text r ++ l₀ ≡ update_text (update_from r h v o) ++ l₄
joined r h v o l₀ l₁ l₂ l₃ l₄ e₁ e₂ e₃ e₄ =
    rw (update_text_lem (update_from r h v o) l₄) (unfold fields_of in rw (e₁, e₂, e₃, e₄))

update_read : (l : List ℕ) (x : Update) (rest : List ℕ) → update l ≡ got x rest → (l ≡ update_text x ++ rest) × WritableUpdate x
unfolding update
update_read l x rest e =
    bind_then (rule l) _ x rest e λ r l₀ e₀ k₀.
    bind_then (field l₀) _ x rest k₀ λ h l₁ e₁ k₁.
    bind_then (field l₁) _ x rest k₁ λ v l₂ e₂ k₂.
    bind_then (field l₂) _ x rest k₂ λ o l₃ e₃ k₃.
    bind_then (word (bytes ")") l₃) _ x rest k₃ λ t l₄ e₄ k₄.
    let f₁ = field_read l₀ h l₁ e₁ in
    let f₂ = field_read l₁ v l₂ e₂ in
    let f₃ = field_read l₂ o l₃ e₃ in
    let j = joined r h v o l₀ l₁ l₂ l₃ l₄ f₁.0 f₂.0 f₃.0 (word_read (bytes ")") l₃ t l₄ e₄) in
    let q : update_from r h v o ≡ x = cc in
    let z : l₄ ≡ rest = cc in (
      rule_read l r l₀ e₀ ∙ j ∙ ap₂ (λ (y : Update) (m : List ℕ). update_text y ++ m) q z,
      subst WritableUpdate q (record { history = f₁.1; version = f₂.1; operand = f₃.1 }),
    )

opens : (r : Rule) (x : List ℕ) → word (bytes ")") (rule_text r ++ x) ≡ bad
unfolding word
opens Inc x = refl
opens Set x = refl
opens Not x = refl
opens Unk x = refl

some-rule : (r : Rule) (x : List ℕ) → 0 < length (rule_text r ++ x)
some-rule Inc x = omega arith
some-rule Set x = omega arith
some-rule Not x = omega arith
some-rule Unk x = omega arith

pub update_item_lem : Item update update_text WritableUpdate
update_item_lem = record {
  written = update-written;
  read = update_read;
  opens = λ x rest. rw (update_text_lem x rest) (opens x.rule (fields_of x rest));
  some = λ x. unfold update_text in some-rule x.rule _;
}

-- ### A form at the front of a list of bytes

add_text : (i : ℕ) (us : List Update) (rest : List ℕ)
    → command_text (Add i us) ++ rest ≡ bytes "(add " ++ (digits i ++ (tail_text update_text us ++ rest))
unfolding command_text
add_text i us rest = list_text_lem update update_text WritableUpdate update_item_lem (bytes "(add ") i us rest

redo_text_lem : (d : Did) (rest : List ℕ) → command_text (Redo d) ++ rest ≡ bytes "(redo " ++ (did_text d ++ closing rest)
unfolding command_text redo_text
redo_text_lem d rest = simp append_assoc

front-written : (c : Command) (rest : List ℕ) → WritableCommand c → command (command_text c ++ rest) ≡ got c rest
unfolding command numbered one word add_form redo_form command_text site_text
front-written (SiteOf n) rest h = rw (one_text_lem (bytes "(site ") n rest, number-written n (closing rest) h refl)
front-written (Finish n) rest h = rw (one_text_lem (bytes "(finish ") n rest, number-written n (closing rest) h refl)
front-written (Withdraw n) rest h = rw (one_text_lem (bytes "(withdraw ") n rest, number-written n (closing rest) h refl)
front-written (Persistent n) rest h = rw (one_text_lem (bytes "(persistent ") n rest, number-written n (closing rest) h refl)
front-written (Stable n) rest h = rw (one_text_lem (bytes "(stable ") n rest, number-written n (closing rest) h refl)
front-written (Show n) rest h = rw (one_text_lem (bytes "(show ") n rest, number-written n (closing rest) h refl)
front-written (Cut n) rest h = rw (one_text_lem (bytes "(cut ") n rest, number-written n (closing rest) h refl)
front-written (Add i us) rest h =
    rw (
      add_text i us rest,
      list_id update update_text WritableUpdate update_item_lem i us rest h.0,
      tail_written update update_text WritableUpdate update_item_lem us rest h.1,
    )
front-written (Redo d) rest h = rw (redo_text_lem d rest, did-written d (closing rest) h)
front-written End rest h = refl

numbered_read : (f : ℕ → Command) (w l : List ℕ) (c : Command) (rest : List ℕ)
    → ((n : ℕ) → command_text (f n) ≡ one_text w n) → ((n : ℕ) → n ≤ top → WritableCommand (f n))
    → numbered f w l ≡ got c rest → (l ≡ command_text c ++ rest) × WritableCommand c
unfolding numbered
numbered_read f w l c rest text fits e =
    bind_then (one w l) _ c rest e λ n m e₁ k₁.
    let r = one_read w l n m e₁ in
    let q : f n ≡ c = cc in
    let z : m ≡ rest = cc in (
      r.0 ∙ ap (λ (x : List ℕ). x ++ m) (sym (text n))
          ∙ ap₂ (λ (x : Command) (y : List ℕ). command_text x ++ y) q z,
      subst WritableCommand q (fits n r.1),
    )

add_read : (l : List ℕ) (c : Command) (rest : List ℕ) → add_form l ≡ got c rest → (l ≡ command_text c ++ rest) × WritableCommand c
unfolding add_form
add_read l c rest e =
    bind_then (word (bytes "(add ") l) _ c rest e λ t l₁ e₁ k₁.
    bind_then (number l₁) _ c rest k₁ λ i l₂ e₂ k₂.
    bind_then (tail update l₂) _ c rest k₂ λ us l₃ e₃ k₃.
    let r = list_read update update_text WritableUpdate update_item_lem (bytes "(add ") l l₁ l₂ l₃ i us e₁ e₂ e₃ in
    let q : Add i us ≡ c = cc in
    let z : l₃ ≡ rest = cc in (
      r.0
          ∙ list_text_lem update update_text WritableUpdate update_item_lem (bytes "(add ") i us l₃
          ∙ sym (add_text i us l₃)
          ∙ ap₂ (λ (x : Command) (y : List ℕ). command_text x ++ y) q z,
      subst WritableCommand q (r.1, r.2),
    )

redo_read_lem : (l : List ℕ) (c : Command) (rest : List ℕ) → redo_form l ≡ got c rest → (l ≡ command_text c ++ rest) × WritableCommand c
unfolding redo_form
redo_read_lem l c rest e =
    bind_then (word (bytes "(redo ") l) _ c rest e λ t l₁ e₁ k₁.
    bind_then (did l₁) _ c rest k₁ λ d l₂ e₂ k₂.
    bind_then (word (bytes ")") l₂) _ c rest k₂ λ u l₃ e₃ k₃.
    let r = did_read l₁ d l₂ e₂ in
    let q : Redo d ≡ c = cc in
    let z : l₃ ≡ rest = cc in (
      word_read (bytes "(redo ") l t l₁ e₁
          ∙ ap (λ (x : List ℕ). bytes "(redo " ++ x) (r.0 ∙ ap (λ (x : List ℕ). did_text d ++ x) (word_read (bytes ")") l₂ u l₃ e₃))
          ∙ sym (redo_text_lem d l₃)
          ∙ ap₂ (λ (x : Command) (y : List ℕ). command_text x ++ y) q z,
      subst WritableCommand q r.1,
    )

end_read : (l : List ℕ) (c : Command) (rest : List ℕ) → choose (word (bytes "(end)") l) End bad ≡ got c rest
    → (l ≡ command_text c ++ rest) × WritableCommand c
end_read l c rest e =
    ⊎_elim
    (λ (p : (word (bytes "(end)") l ≡ got tt rest) × (End ≡ c)). (
      word_read (bytes "(end)") l tt rest p.0
          ∙ (unfold command_text in ap (λ (x : Command). command_text x ++ rest) p.1),
      subst WritableCommand p.1 tt,
    ))
    (λ (h : bad ≡ got c rest). never h)
    (choose_read (word (bytes "(end)") l) End bad c rest e)

front_read : (l : List ℕ) (c : Command) (rest : List ℕ) → command l ≡ got c rest → (l ≡ command_text c ++ rest) × WritableCommand c
unfolding command command_text site_text
front_read l c rest e =
    ⊎_elim (λ h. add_read l c rest h) (λ e₁.
    ⊎_elim (λ h. numbered_read Finish (bytes "(finish ") l c rest (λ n. refl) (λ n f. f) h) (λ e₂.
    ⊎_elim (λ h. redo_read_lem l c rest h) (λ e₃.
    ⊎_elim (λ h. numbered_read Show (bytes "(show ") l c rest (λ n. refl) (λ n f. f) h) (λ e₄.
    ⊎_elim (λ h. numbered_read Withdraw (bytes "(withdraw ") l c rest (λ n. refl) (λ n f. f) h) (λ e₅.
    ⊎_elim (λ h. numbered_read Persistent (bytes "(persistent ") l c rest (λ n. refl) (λ n f. f) h) (λ e₆.
    ⊎_elim (λ h. numbered_read Stable (bytes "(stable ") l c rest (λ n. refl) (λ n f. f) h) (λ e₇.
    ⊎_elim (λ h. numbered_read Cut (bytes "(cut ") l c rest (λ n. refl) (λ n f. f) h) (λ e₈.
    ⊎_elim (λ h. numbered_read SiteOf (bytes "(site ") l c rest (λ n. refl) (λ n f. f) h) (λ e₉. end_read l c rest e₉)
    (or_else_read (numbered SiteOf (bytes "(site ") l) _ c rest e₈))
    (or_else_read (numbered Cut (bytes "(cut ") l) _ c rest e₇))
    (or_else_read (numbered Stable (bytes "(stable ") l) _ c rest e₆))
    (or_else_read (numbered Persistent (bytes "(persistent ") l) _ c rest e₅))
    (or_else_read (numbered Withdraw (bytes "(withdraw ") l) _ c rest e₄))
    (or_else_read (numbered Show (bytes "(show ") l) _ c rest e₃))
    (or_else_read (redo_form l) _ c rest e₂))
    (or_else_read (numbered Finish (bytes "(finish ") l) _ c rest e₁))
    (or_else_read (add_form l) _ c rest e)

-- ### A whole line

pub command-written : (c : Command) → WritableCommand c → length (command_text c) ≤ line_limit → read_command (command_text c) ≡ got c []
unfolding read_command
command-written c f h = read_whole-written command c (command_text c) (front-written c [] f) h

pub command_read : (l : List ℕ) (c : Command) (rest : List ℕ) → read_command l ≡ got c rest
    → (l ≡ command_text c) × (rest ≡ []) × WritableCommand c × (length l ≤ line_limit)
unfolding read_command
command_read l c rest e =
    let w = read_whole_read command c l rest e in
    let r = front_read l c [] w.0 in
    (r.0 ∙ append-nil (command_text c), w.1, r.1, w.2)

-- Two lines that read as the same form are the same bytes.
pub command_canonical : (l m : List ℕ) (c : Command) (rest rest' : List ℕ) → read_command l ≡ got c rest → read_command m ≡ got c rest'
    → l ≡ m
command_canonical l m c rest rest' p q = (command_read l c rest p).0 ∙ sym (command_read m c rest' q).0

-- Only digits, lower-case letters, brackets and the single space occur in a line that is read as a form.
pub read_command_plain : (l : List ℕ) (c : Command) (rest : List ℕ) → read_command l ≡ got c rest → Plain l
read_command_plain l c rest e = subst Plain (sym (command_read l c rest e).0) (command_plain c)
