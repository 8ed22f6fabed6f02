-- Round after round. A refused opening hands back a site without histories.
use Rattle.std.proofs.Common.{ℕ, ◌*◌, ◌≡◌, refl, ◌∙◌, arith, List, [], length, replicate}
use borrow.Author.Rules.{rules}
use Rattle.rules.specs.Calls.{open_site}
use Rattle.history.specs.Words.{width}
use Rattle.table.specs.Rows.{row_width}
use Rattle.site.specs.Model.{lent}
use Rattle.c_api.specs.RoundsLaws.{no_round, round_more, not_opened, opened_valid, rounds_stand}
use Rattle.c_api.proofs.rounds.site_add_and_finish.Goals as goal

-- the rows and the order before the site is opened
abbrev rs : List ℕ
rs = replicate (64 * row_width) 0

abbrev os : List ℕ
os = replicate 64 0

-- the words of the histories before the site is opened
abbrev bs : List ℕ
bs = replicate (16 * width) 0

-- the words of the lists of a reply before the first round
abbrev ws : List ℕ
ws = replicate 68 0

pub returns-then-site-eq0 : goal.returns-then-site-eq0
returns-then-site-eq0 c =
    let log = c.args.log.now in
    let o = c.open-c in
    not_opened (open_site 4 (length log)) _ (lent log rs os bs []) o.result (lent o.new.log rs o.new.order o.new.book []) (o.ensures []) c.if-site-eq0.true

pub loop-id-init : goal.loop-id-init
loop-id-init c =
    let log = c.args.log.now in
    let o = c.open-c in
    let mid = lent o.new.log rs o.new.order o.new.book ws in
    let v = opened_valid (open_site 4 (length log)) (lent log rs os bs ws) o.result mid (o.ensures ws) c.if-site-eq0.false in
    record { reaches = no_round _ _ v; room = refl }

pub round-site-requires : goal.round-site-requires
round-site-requires c = record { valid = c.loop-id.invariant.reaches.valid; id_bound = omega arith }

pub loop-id-preserved : goal.loop-id-preserved
loop-id-preserved c =
    let l = c.loop-id in
    let r = c.round-site in
    let a : length r.new.log ≡ length l.log = search rules in
    record {
      reaches = round_more _ _ l.id _ l.site (lent l.log l.rows l.order l.book l.lists) r.result _ (omega arith) l.invariant.reaches r.ensures;
      room = a ∙ l.invariant.room;
    }

pub returns : goal.returns
returns c =
    let log = c.args.log.now in
    let o = c.open-c in
    let l = c.loop-id in
    rounds_stand (open_site 4 (length log)) _ l.id (lent log rs os bs ws) o.result (lent o.new.log rs o.new.order o.new.book ws) l.site
    (lent l.log l.rows l.order l.book l.lists) (o.ensures ws) c.if-site-eq0.false (omega arith) l.invariant.reaches
