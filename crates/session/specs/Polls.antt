-- What the poll of a history is as a number, for callers in other languages.
use Rattle.std.specs.Prelude.{ℕ}
use Rattle.forms.specs.Refusals.{number_of}
use Rattle.rules.specs.Poll.{Polled, PollRefused, PollDry, PollBusy}

-- 1,001 for a dry history, 1,000 for one that is not dry, or a refusal's number
unfoldable pub polled_number : Polled → ℕ
polled_number (PollRefused q) = number_of q
polled_number PollDry = 1001
polled_number PollBusy = 1000
