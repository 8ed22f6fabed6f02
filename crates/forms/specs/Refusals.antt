-- The refusals, with the papers' number for each.
use Rattle.std.specs.Prelude.{ℕ}
use Rattle.forms.specs.declared.Refusal.{Refusal}
use Rattle.forms.specs.declared.Refusal.TheVariants.{Unreadable, WrongCount, NoSuchHistory, HistoryTwice}
use Rattle.forms.specs.declared.Refusal.TheVariants.{OperandRange, NothingOrders, IdPending, AlreadyDone}
use Rattle.forms.specs.declared.Refusal.TheVariants.{ReadOvertaken, TableFull, WrongState, NoRoom, AboveLimit}
use Rattle.forms.specs.declared.Refusal.TheVariants.{OutOfTurn, BadLog, HighestVersion, WrongThreshold, NotSent, Conflict}
use Rattle.forms.specs.declared.Refusal.TheVariants.{NoLengthFits, WindowRange}

-- "A refusal returns its number only": the column `no.` of the table in "Refusals", and 02's 17 to 22.
unfoldable pub number_of : Refusal → ℕ
number_of Unreadable = 1
number_of WrongCount = 2
number_of NoSuchHistory = 3
number_of HistoryTwice = 4
number_of OperandRange = 5
number_of NothingOrders = 6
number_of IdPending = 7
number_of AlreadyDone = 8
number_of ReadOvertaken = 9
number_of TableFull = 10
number_of WrongState = 11
number_of NoRoom = 12
number_of AboveLimit = 13
number_of OutOfTurn = 14
number_of BadLog = 15
number_of HighestVersion = 17
number_of WrongThreshold = 18
number_of NotSent = 19
number_of Conflict = 20
number_of NoLengthFits = 21
number_of WindowRange = 22
