-- The invariant of modules: what the sites have and are promised fits the table. Its laws: every call keeps it, and what follows for
-- refusal 10.
use Rattle.std.specs.Prelude.{◌≡◌, false, ℕ, ◌≤◌, max, length}
use mathlib.Core.List.{Memᴰ as Mem}
use Rattle.std.proofs.Math.Option.{some}
use Rattle.forms.specs.Lists.{sum}
use Rattle.forms.specs.Limits.{live_limit}
use Rattle.rules.specs.State.{State}
use Rattle.rule_laws.specs.Good.{Good}
use Rattle.compact.specs.Module.{slot_limit, entry_limit, least, Slot, Module, restoring_in, live_of}

-- ### The invariant

-- what a site holds of the table: what it has, and what it is promised
unfoldable pub claims : Slot → ℕ
claims s = max (live_of s) s.promise

pub record GoodSlot (s : Slot) : Type 0 where
  pub good : (st : State) → s.site ≡ some st → Good st
  pub promised : least ≤ s.promise
  pub may_use : s.promise ≤ live_limit
  -- a promise above 16 ends with restoring
  pub ended : restoring_in s.site ≡ false → s.promise ≡ least

pub record Fits (m : Module) : Type 0 where
  pub four : length m ≡ slot_limit
  pub slots : (s : Slot) → Mem s m → GoodSlot s
  -- what all claim is at most the table
  pub enough : sum claims m ≤ entry_limit
