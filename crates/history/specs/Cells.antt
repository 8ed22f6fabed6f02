-- What the specification asks of the book of a log, asked of the cells of an array of histories.
use Rattle.std.specs.Prelude.{ℕ, ◌+◌, ◌≤◌, ◌<◌, ◌≡◌, Bool, false, ◌&&◌, ◌||◌, not, List, map, leb, ltb, length, get_or}
use Rattle.forms.specs.Decimal.{top}
use Rattle.forms.specs.Limits.{base_top, log_limit, history_limit}
use Rattle.forms.specs.Lists.{any}
use Rattle.forms.specs.Forms.{Update, Change, Did}
use Rattle.rules.specs.Rules.{timing, is_never, strong, ordered, rule_of, logged_as, version_after}
use Rattle.rules.specs.Book.{Cell, enter_all}
use Rattle.rules.specs.State.{Operation}
use Rattle.history.specs.declared.History.{History}
use Rattle.history.specs.declared.Item.{Item}
use Rattle.history.specs.declared.Entry.{Entry}
use Rattle.history.specs.declared.Findings.{Findings}
use Rattle.history.specs.Entries.{cells_of, no_item, operation_of, did_of_entry, UsableEntry}

-- ### Tests of refusals

-- 8 of a redo: "a place not above the history's"
unfoldable pub stale_in : (ℕ → Cell) → Change → Bool
stale_in cells x = leb x.place (cells x.history).place

-- 8 of an add: "a strong ordered U ≤ C"
unfoldable pub already_done_in : (ℕ → Cell) → Update → Bool
already_done_in cells u = strong u.rule && ordered u.rule && leb u.version (cells u.history).version

-- 9: "a not with U < C"
unfoldable pub read_overtaken_in : (ℕ → Cell) → Update → Bool
read_overtaken_in cells u = not (strong u.rule) && ltb u.version (cells u.history).version

-- 17: "an added `unk` in a history at the highest version"
unfoldable pub at_highest_in : (ℕ → Cell) → Update → Bool
at_highest_in cells u = not (ordered u.rule) && leb top (cells u.history).version

-- 8, 9 and 17 of an add, of one item against the cell of its history
unfoldable pub ran_at : Cell → Item → Bool
ran_at c x = strong x.rule && ordered x.rule && leb x.version.0 c.version

unfoldable pub overtaken_at : Cell → Item → Bool
overtaken_at c x = not (strong x.rule) && ltb x.version.0 c.version

unfoldable pub highest_at : Cell → Item → Bool
highest_at c x = not (ordered x.rule) && leb top c.version

-- What the checks 6, 8, 9 and 17 ask of the updates of an operation.
unfoldable pub findings_in : (ℕ → Cell) → List Update → Findings
findings_in cells us =
    record {
      strong = any (λ (u : Update). strong u.rule) us;
      orders = any (λ (u : Update). strong u.rule && ordered u.rule) us;
      ran = any (already_done_in cells) us;
      overtaken = any (read_overtaken_in cells) us;
      highest = any (at_highest_in cells) us;
    }

-- .. with one item more
unfoldable pub found_with : Findings → Cell → Item → Findings
found_with f c x =
    record {
      strong = f.strong || strong x.rule;
      orders = f.orders || (strong x.rule && ordered x.rule);
      ran = f.ran || ran_at c x;
      overtaken = f.overtaken || overtaken_at c x;
      highest = f.highest || highest_at c x;
    }

-- ### Overtaken

-- the update can never run, against the cell of its history
unfoldable pub never_in : (ℕ → Cell) → Update → Bool
never_in cells u = is_never (timing u.rule (cells u.history).version u.version)

-- 02 (b): "every future operation that holds a never"
unfoldable pub overtaken_in : (ℕ → Cell) → Operation → Bool
overtaken_in cells x = not x.running && any (never_in cells) x.updates

-- ### Finishing

-- "an `unk` is recorded as `inc` with the version it got"; "raises each touched place by 1"
unfoldable pub change_in : (ℕ → Cell) → Update → Change
change_in cells u =
    let c = cells u.history in
    record {
      rule = logged_as u.rule;
      history = u.history;
      version = version_after u.rule c.version u.version;
      place = c.place + 1;
      operand = u.operand;
    }

-- the line that finishing an operation writes
unfoldable pub line_in : (ℕ → Cell) → Operation → Did
line_in cells x = record { id = x.id; changes = map (change_in cells) x.updates }

-- An item that is done: its rule, version and place as the line has them.
abbrev pub stamped : Cell → Item → Item
stamped c x =
    record {
      rule = rule_of (logged_as x.rule);
      history = x.history;
      version = record { 0 = version_after x.rule c.version x.version.0 };
      place = record { 0 = c.place + 1 };
      operand = x.operand;
    }

-- The entry after finishing stands for the line that finishing writes.
pub record Stamps (cells : ℕ → Cell) (e after : Entry) : Type 0 where
  pub usable : UsableEntry after
  pub running : after.running ≡ false
  pub line : did_of_entry after ≡ line_in cells (operation_of e)

-- "values after in the operation's order"
unfoldable pub values_in : (ℕ → Cell) → List Update → List ℕ
values_in cells us = map (λ (u : Update). (cells u.history).profile) us

-- ### Performing

-- A place that can rise: at most the highest N of a base line, and one more for each change, which takes bytes of the log.
abbrev pub LowPlace : Cell → Type 0
LowPlace c = c.place ≤ base_top + log_limit

-- Those of the histories of an entry are, and that of history 0, which blank items name.
pub record LowPlaces (hs : List History) (e : Entry) : Type 0 where
  pub first : LowPlace (cells_of hs 0)
  pub each : (i : ℕ) → i < e.count → LowPlace (cells_of hs (get_or e.items i no_item).history)

-- The histories after the changes of a line are what the book makes of them.
pub record Applies (hs : List History) (e : Entry) (after : List History) : Type 0 where
  pub long : length after ≡ history_limit
  pub cells : (h : ℕ) → h < history_limit → cells_of after h ≡ enter_all h (did_of_entry e).changes (cells_of hs h)
