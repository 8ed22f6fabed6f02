-- What is read is so in the state of every site with this table, as long as it is valid.
use Rattle.site.specs.Model.{received}
use Rattle.site.specs.SeenLaws.{lent_sees}
use Rattle.site.proofs.Site.inputs.Goals as goal

pub returns-clause-seen : goal.returns-clause-seen
returns-clause-seen c = λ log book v.
    lent_sees c.args.self (received log c.args.rows.now c.args.order.now book) v c.args.id _ _ c.has_id.ensures c.has_id-2.ensures
