use Rattle.std.proofs.Common.{take}
use Rattle.std.specs.List.{flat_map}
use Rattle.fab_tree.specs.declared.resolved.Asked.{Asked}
use Rattle.fab_settings.specs.Numbers.{AllFit}
use Rattle.fab_fitting.proofs.whole.read_requests.Given as goal

abbrev pub invariant-loop-asked : goal.invariant-loop-asked
invariant-loop-asked l = AllFit (flat_map (λ (a : Asked). a.request.args) (take l.asked-index l.requests))
