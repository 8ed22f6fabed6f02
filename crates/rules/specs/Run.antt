-- A list of calls, one after the other.
use Rattle.std.specs.Prelude.{List, [], ◌∷◌}
use Rattle.rules.specs.State.{State, settle}
use Rattle.rules.specs.Calls.{Call, step}

-- "Each call gets site and log as the last one left them, a refused one unchanged."
unfoldable pub run : List Call → State → State
run [] st = st
run (c ∷ cs) st = run cs (settle (step c st) st)
