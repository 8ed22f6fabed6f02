-- What is said of a call that names a number of bytes, or of lines.
use Rattle.std.specs.Prelude.{ℕ, Result, Ok, Err}
use Rattle.forms.specs.Refusals.{number_of}
use Rattle.forms.specs.declared.Refusal.{Refusal}

-- 0, or a refusal's number
unfoldable pub said_number : Result ℕ Refusal → ℕ
said_number (Ok n) = 0
said_number (Err q) = number_of q

-- what is named, which a refusal leaves unsaid
unfoldable pub said_value : Result ℕ Refusal → ℕ → ℕ
said_value (Ok n) before = n
said_value (Err q) before = before
