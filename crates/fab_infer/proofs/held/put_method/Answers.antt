use Rattle.std.proofs.Common.{ap}
use Rattle.std.specs.List.{flat_map}
use Rattle.std.proofs.lemmas.Result.{on_ok_weaker}
use Rattle.fab_tree.specs.Limits.{declared_in}
use Rattle.fab_holes.specs.Holes.{holes_in}
use Rattle.fab_infer.specs.Fill.{of_labels, places_among}
use Rattle.fab_infer.proofs.HoldingPlaces.{in_all, of_two, places_append}
use Rattle.fab_infer.proofs.held.put_method.Goals as goal

pub returns : goal.returns
returns c =
    let s = of_labels c.args.declared.now.labels.now in
    let m = c.args.method.now in
    on_ok_weaker c.put_block.result
    (of_two c.args.out.now c.put_parameters.new.out c.put_block.new.out (places_among s c.as_slice.result.now) (in_all s c.as_slice-2.result.now) (places_among s m.parameters) (in_all s m.body) (holes_in s m)
    (places_append s m.parameters (flat_map declared_in m.body)) (ap (places_among s) c.as_slice.ensures) (ap (in_all s) c.as_slice-2.ensures) c.in_ok-put_parameters.ensures)
    c.put_block.ensures
