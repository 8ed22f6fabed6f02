-- The turn's reply can be printed, so the writer writes it, and what is written is the specification's reply.
use Rattle.session.specs.AnswerLaws.{answers-turn}
use Rattle.session.specs.TurnLaws.{writes_printable}
use Rattle.site.specs.Model.{lent}
use Rattle.session.proofs.Session.answer.Goals as goal

pub returns : goal.returns
returns c =
    answers-turn c.args.self (lent c.args.log.now c.args.rows.now c.args.order.now c.args.book.now c.args.lists.now) _ c.turn-t.result _ _ c.args.out.now _
    c.turn-t.ensures (writes_printable _ _ _ _ _ _ c.turn-t.ensures.answer.printable c.write_turn-next.ensures).text
