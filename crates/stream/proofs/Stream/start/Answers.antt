-- A session before `site` and an empty line are the stream of no input.
use Rattle.std.proofs.Common.{Some}
use Rattle.stream.specs.RunLaws.{starts_stream}
use Rattle.stream.proofs.Stream.start.Goals as goal

pub returns : goal.returns
returns c = λ m. starts_stream c.start.result (Some c.no_line.result) m (c.start.ensures m) c.no_line.ensures
