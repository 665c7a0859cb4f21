use Rattle.std.proofs.Common.{take}
use Rattle.std.specs.List.{flat_map}
use Rattle.fab_tree.specs.declared.resolved.Root.{Root}
use Rattle.fab_settings.specs.Numbers.{AllFit}
use Rattle.fab_fitting.proofs.whole.read_roots.Given as goal

abbrev pub invariant-loop-root : goal.invariant-loop-root
invariant-loop-root l = AllFit (flat_map (λ (x : Root). x.values) (take l.root-index l.roots))
