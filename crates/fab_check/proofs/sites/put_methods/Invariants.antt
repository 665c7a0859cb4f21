use Rattle.std.proofs.Common.{◌≡◌, drop}
use Rattle.std.specs.List.{flat_map}
use Rattle.fab_labelling.specs.Sites.{method_sites}
use Rattle.fab_check.specs.Sited.{all_sited}
use Rattle.fab_check.proofs.sites.put_methods.Given as goal

abbrev pub invariant-loop-method : goal.invariant-loop-method
invariant-loop-method l =
    all_sited l.out (flat_map (method_sites l.start.classes) (drop l.method-index l.method-items)) ≡ all_sited l.initial.out (flat_map (method_sites l.start.classes) l.method-items)
