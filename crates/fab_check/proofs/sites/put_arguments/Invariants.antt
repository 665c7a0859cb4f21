use Rattle.std.proofs.Common.{◌≡◌, drop}
use Rattle.std.specs.List.{flat_map}
use Rattle.fab_labelling.specs.Sites.{sites_in}
use Rattle.fab_check.specs.Sited.{with_sites}
use Rattle.fab_check.proofs.sites.put_arguments.Given as goal

abbrev pub invariant-loop-argument : goal.invariant-loop-argument
invariant-loop-argument l =
    with_sites l.out l.pc (flat_map sites_in (drop l.argument-index l.arguments)) ≡ with_sites l.initial.out l.pc (flat_map sites_in l.arguments)
