-- Updates that are asked for, and did lines that come, before they are entries.
use Rattle.std.specs.Prelude.{ℕ, ◌≤◌, ◌<◌, ◌≡◌, true, false, List, map, ◌⊎◌, length, get_or, take, Option, Some, None, Result, Ok, Err}
use Rattle.std.proofs.Math.Option.{Option as Maybe, none, some}
use Rattle.forms.specs.Forms.{Update, Change, Did}
use Rattle.forms.specs.Held.{as_update, as_asked, as_change, as_done, no_update, no_change}
use Rattle.forms.specs.Limits.{history_limit, update_limit}
use Rattle.forms.specs.declared.Asked.{Asked}
use Rattle.forms.specs.declared.Done.{Done}
use Rattle.forms.specs.Held.{AskedHeld}
use Rattle.forms.specs.Held.{DoneHeld}
use Rattle.forms.specs.declared.DidLine.{DidLine}
use Rattle.forms.specs.declared.Refusal.{Refusal}
use Rattle.rules.specs.Rules.{rule_of, operand_fits}
use Rattle.rules.specs.Checks.{change_misfits}
use Rattle.rules.specs.State.{Operation}
use Rattle.history.specs.declared.Item.{Item}
use Rattle.history.specs.declared.Entry.{Entry}
use Rattle.history.specs.Entries.{operation_of, did_of_entry, UsableEntry}

-- The first check that refuses, or none.
unfoldable pub verdict_of : Maybe Refusal → Result (Unit {0}) Refusal
verdict_of none = Ok tt
verdict_of (some r) = Err r

-- These values are held in places of which n count: they are as many, and where that is at most four, just they stand in the first places.
-- What stands behind them can be anything.
pub record Holds {A B : Type 0} (value : B → A) (n : ℕ) (places : List B) (xs : List A) : Type 0 where
  pub count : n ≡ length xs
  pub first : n ≤ update_limit → map value (take n places) ≡ xs

abbrev pub HoldsUpdates : AskedHeld → List Update → Type 0
HoldsUpdates h us = Holds as_update h.count h.first us

abbrev pub HoldsChanges : DoneHeld → List Change → Type 0
HoldsChanges h xs = Holds as_change h.count h.first xs

-- what fills the places in which no update is held
abbrev pub no_asked : Asked
no_asked = as_asked no_update

abbrev pub no_done_update : Done
no_done_update = as_done no_change

-- The update that a change reports.
abbrev pub change_update : Change → Update
change_update x = record { rule = rule_of x.rule; history = x.history; version = x.version; operand = x.operand }

-- The items that stand for an update and for a change.
abbrev pub update_item : Update → Item
update_item u =
    record { rule = u.rule; history = u.history; version = record { 0 = u.version }; place = record { 0 = 0 }; operand = u.operand }

abbrev pub change_item : Change → Item
change_item x =
    record {
      rule = rule_of x.rule;
      history = x.history;
      version = record { 0 = x.version };
      place = record { 0 = x.place };
      operand = x.operand;
    }

-- ### Updates and did lines that passed 2 to 5 in a site of at most 16 histories

-- what an update needs to become an item
pub record UsableUpdate (u : Update) : Type 0 where
  pub history : u.history < history_limit
  pub operand : operand_fits u.rule u.version u.operand ≡ true

pub record UsableHeld (h : AskedHeld) : Type 0 where
  pub few : h.count ≤ update_limit
  pub long : length h.first ≡ update_limit
  pub each : (i : ℕ) → i < h.count → UsableUpdate (as_update (get_or h.first i no_asked))

pub record UsableDid (d : DidLine) : Type 0 where
  pub few : d.held.count ≤ update_limit
  pub long : length d.held.first ≡ update_limit
  pub each : (i : ℕ) → i < d.held.count → UsableUpdate (change_update (as_change (get_or d.held.first i no_done_update)))

-- The entry stands for this operation.
pub record Enters (x : Operation) (e : Entry) : Type 0 where
  pub usable : UsableEntry e
  pub operation : operation_of e ≡ x

-- The entry stands for this did line.
pub record EntersDid (d : Did) (e : Entry) : Type 0 where
  pub usable : UsableEntry e
  pub idle : e.running ≡ false
  pub line : did_of_entry e ≡ d

-- A change passes 3 and 5 in a site of n histories, and the item stands for it.
pub record FitsItem (n : ℕ) (x : Change) (i : Item) : Type 0 where
  pub history : x.history < n
  pub operand : change_misfits x ≡ false
  pub item : i ≡ change_item x

-- .. where there is one; where there is none, it breaks 3 or 5
abbrev pub FitsAs : ℕ → Change → Option Item → Type 0
FitsAs n x (Some i) = FitsItem n x i
FitsAs n x None = (n ≤ x.history) ⊎ (change_misfits x ≡ true)
