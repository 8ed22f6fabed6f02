-- The line reads as one command or as none, by the reader's contract; what is obeyed is that command's turn.
use Rattle.session.specs.ReadLaws.{turns_by}
use Rattle.site.specs.Model.{lent}
use Rattle.session.proofs.Session.turn.Goals as goal

pub returns : goal.returns
returns c =
    turns_by c.args.line.now _ c.read_command.ensures
    c.args.self (lent c.args.log.now c.args.rows.now c.args.order.now c.args.book.now c.args.lists.now) _ _ c.obey.ensures
