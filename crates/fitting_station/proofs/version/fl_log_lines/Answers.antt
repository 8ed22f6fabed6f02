-- No log has more did lines, and a report names each of them at most once.
use Rattle.std.proofs.Common.{refl}
use Rattle.fitting_station.specs.RoomLaws.{room_enough}
use Rattle.fitting_station.proofs.version.fl_log_lines.Goals as goal

pub returns : goal.returns
returns c = (refl, room_enough)
