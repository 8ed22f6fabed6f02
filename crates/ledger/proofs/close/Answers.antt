-- What `finish` says it wrote is within `out`.
use Rattle.std.proofs.Common.{arith, refl, sym, length, length-take-le, ◌≡◌, Some}
use Rattle.stream.specs.RunLaws.{rest-within}
use Rattle.ledger.proofs.close.Goals as goal

pub slice_bounds-write_all-end : goal.slice_bounds-write_all-end
slice_bounds-write_all-end g c =
    let long : length c.finish.new.out ≡ length c.args.out.now = c.finish.auto.out in
    let h = rest-within c.args.stream.begun c.args.out.now 0 (Some c.in-Some.n) _ c.in-Some.n c.requires c.in-Some.ensures refl in
    omega (arith, h, long)

pub slice_bounds-write_all-end-in-Some : goal.slice_bounds-write_all-end-in-Some
slice_bounds-write_all-end-in-Some g c =
    let long : length c.finish.new.out ≡ length c.args.out.now = c.finish.auto.out in
    let h = rest-within c.args.stream.begun c.args.out.now 0 (Some c.in-Some.n) _ c.in-Some.n c.requires c.in-Some.ensures refl in
    sym (length-take-le _ _ (omega (arith, h, long)))
