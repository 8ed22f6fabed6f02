-- A session starts without a site, so it is before site.
use mathlib.Core.Path.{refl}
use Rattle.session.specs.AnswerLaws.{starts}
use Rattle.session.proofs.Session.start.Goals as goal

pub returns : goal.returns
returns c = starts _ refl
