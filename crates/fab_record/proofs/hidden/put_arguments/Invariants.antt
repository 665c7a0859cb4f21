use Rattle.std.proofs.Common.{◌≡◌, ◌++◌, drop}
use Rattle.std.specs.List.{flat_map}
use Rattle.fab_labelling.specs.Sites.{sites_in}
use Rattle.fab_record.proofs.hidden.put_arguments.Given as goal

abbrev pub invariant-loop-argument : goal.invariant-loop-argument
invariant-loop-argument l = l.out ++ flat_map sites_in (drop l.argument-index l.arguments) ≡ l.initial.out ++ flat_map sites_in l.arguments
