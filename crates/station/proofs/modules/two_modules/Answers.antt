-- No records are valid in any numbers with room for 64, and each call keeps them so.
use Rattle.std.proofs.Common.{arith}
use Rattle.station.proofs.modules.two_modules.Goals as goal

pub record-s-requires : goal.record-s-requires
record-s-requires g c = c.empty-s.ensures.valid _ (omega arith)
