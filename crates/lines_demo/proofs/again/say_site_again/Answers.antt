-- Where the writer says that it ended is within its buffer.
use Rattle.lines_demo.specs.Within.{writes_within}
use Rattle.lines_demo.proofs.again.say_site_again.Goals as goal

pub say_front-requires : goal.say_front-requires
say_front-requires g c = writes_within _ _ _ _ _ c.write_site-w.ensures
