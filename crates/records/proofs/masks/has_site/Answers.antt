-- The bit that is shifted to the front is the site's; above 7 no mask has a site.
use Rattle.std.proofs.Common.{ℕ, ◌/◌, ◌^◌, eqb, sym, ap, ◌∙◌, arith, le-ltb}
use lib.Bits.{and_mask}
use Rattle.forms.specs.ListLaws.{T_true, T_false}
use Rattle.rule_laws.specs.RecordMasks.{mask_site, site_low}
use Rattle.records.proofs.masks.has_site.Goals as goal

pub returns-then-site-lt8 : goal.returns-then-site-lt8
returns-then-site-lt8 c =
    let a = c.args in
    ap (λ (n : ℕ). eqb n 1) (and_mask (a.mask / (2 ^ a.site)) 1) ∙ sym (mask_site a.mask a.site c.if-site-lt8.true)

pub returns-else-site-lt8 : goal.returns-else-site-lt8
returns-else-site-lt8 c =
    let a = c.args in
    rw (le-ltb a.site 8 c.if-site-lt8.false)
    (sym (T_false _ (λ t. let low = site_low a.mask a.site (T_true _ t) in omega (arith, low, c.if-site-lt8.false))))
