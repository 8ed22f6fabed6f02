-- What a caller learns from an answer to a command line: the answer says what the line reads as.
use Rattle.std.specs.Prelude.{◌≡◌, refl, List, [], ℕ, Some, None}
use Rattle.std.proofs.Common.{ap, ◌∙◌}
use Rattle.forms.specs.Decimal.{Step}
use Rattle.forms.specs.Decimal.Step.{got, bad}
use Rattle.forms.specs.Forms.{Command}
use Rattle.forms.specs.Reading.{read_command}
use Rattle.forms.specs.CommandLaws.{command_read}
use Rattle.forms.specs.Read.{answer_of, command_answer}
use Rattle.forms.specs.declared.reader.CommandForm.{CommandForm}

-- The line reads as a command, and the answer's form is that command as it is held.
pub record CommandSaid (l : List ℕ) (f : CommandForm) : Type 0 where
  pub command : Command
  pub read : read_command l ≡ got command []
  pub form : f ≡ answer_of command

pub command_said : (l : List ℕ) (f : CommandForm) → Some f ≡ command_answer (read_command l) → CommandSaid l f
unfolding command_answer
command_said l f e = go (read_command l) refl e
  where
    go : (x : Step Command) → read_command l ≡ x → Some f ≡ command_answer x → CommandSaid l f
    go (got c rest) p q =
        record { command = c; read = p ∙ ap (λ (m : List ℕ). got c m) (command_read l c rest p).1; form = cc }
    go bad p q = absurd (cc)

-- .. no form: it is not readable
pub command_unsaid : (l : List ℕ) → None ≡ command_answer (read_command l) → read_command l ≡ bad
unfolding command_answer
command_unsaid l e = go (read_command l) refl e
  where
    go : (x : Step Command) → read_command l ≡ x → None ≡ command_answer x → read_command l ≡ bad
    go (got c rest) p q = absurd (cc)
    go bad p q = p
