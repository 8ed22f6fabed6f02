-- "These records stand beside the kept lines and alter none of them" (02, (e)): in every list of calls of a keeper, of both kinds, the
-- lines are what the calls about lines make of them, and the records what those about records do.
use Rattle.std.specs.Prelude.{◌≡◌, refl, List, [], ◌∷◌}
use Rattle.rules.specs.Keeper as book
use Rattle.rules.specs.Records.{Record, RecordCall, record_reply, records_after, records_run}
use Rattle.keeper.specs.OnceLaws.{KeeperCall, after_call, after_calls}

-- A keeper with its records.
pub record Station : Type 0 where
  pub keeper : book.Keeper
  pub records : List Record

-- A call of either kind.
pub data StationCall : Type 0 where
  about_lines : KeeperCall → StationCall
  about_records : RecordCall → StationCall

-- A keeper with its records after a call.
unfoldable pub station_after : StationCall → Station → Station
station_after (about_lines c) s = record { keeper = after_call c s.keeper; records = s.records }
station_after (about_records c) s = record { keeper = s.keeper; records = records_after (record_reply c s.records) s.records }

-- .. after calls, the first one first
unfoldable pub station_run : List StationCall → Station → Station
station_run [] s = s
station_run (c ∷ cs) s = station_run cs (station_after c s)

-- the calls about lines, and those about records
unfoldable pub line_calls : List StationCall → List KeeperCall
line_calls [] = []
line_calls (about_lines c ∷ cs) = c ∷ line_calls cs
line_calls (about_records c ∷ cs) = line_calls cs

unfoldable pub record_calls : List StationCall → List RecordCall
record_calls [] = []
record_calls (about_lines c ∷ cs) = record_calls cs
record_calls (about_records c ∷ cs) = c ∷ record_calls cs

-- Lines and records leave each other alone.
pub beside-lines : (cs : List StationCall) (s : Station)
    → station_run cs s ≡ record { keeper = after_calls (line_calls cs) s.keeper; records = records_run (record_calls cs) s.records }
unfolding station_run station_after line_calls record_calls after_calls records_run
beside-lines [] s = refl
beside-lines (about_lines c ∷ cs) s = beside-lines cs (record { keeper = after_call c s.keeper; records = s.records })
beside-lines (about_records c ∷ cs) s =
    beside-lines cs (record { keeper = s.keeper; records = records_after (record_reply c s.records) s.records })
