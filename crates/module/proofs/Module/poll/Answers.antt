-- The site's own poll says it; a slot without one is refused.
use Rattle.std.proofs.Common.{sym, ◌∙◌}
use Rattle.module.specs.Polls.{book_size, book_below, book_valid, polls-site, polls_none}
use Rattle.module.proofs.Module.poll.Goals as goal

pub is_open-requires : goal.is_open-requires
is_open-requires c = book_size c.args.self c.args.slot c.args.book.now c.requires

pub returns-then-not-is_open : goal.returns-then-not-is_open
returns-then-not-is_open c =
    let a = c.args in polls_none a.self a.slot a.book.now a.h (sym c.is_open.ensures ∙ c.if-not-is_open.true)

pub bounds-self-slot : goal.bounds-self-slot
bounds-self-slot c = book_below c.args.self c.args.slot c.args.book.now c.requires (sym c.is_open.ensures ∙ c.if-not-is_open.false)

pub poll-requires : goal.poll-requires
poll-requires c = book_valid c.args.self c.args.slot c.args.book.now c.requires (sym c.is_open.ensures ∙ c.if-not-is_open.false)

pub returns : goal.returns
returns c =
    let a = c.args in polls-site a.self a.slot a.book.now a.h _ (sym c.is_open.ensures ∙ c.if-not-is_open.false) c.poll.ensures
