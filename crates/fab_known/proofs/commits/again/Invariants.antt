use Rattle.std.proofs.Common.{◌≡◌, map, take}
use Rattle.std.specs.List.{flat_map}
use Rattle.fab_base.specs.declared.message.Message.TheVariants.{Commit}
use Rattle.fab_sent.specs.Messages.{all_spelled}
use Rattle.fab_world.specs.Workers.{to_all}
use Rattle.fab_known.specs.Commits.{commitment_of}
use Rattle.fab_known.proofs.commits.again.Given as goal

abbrev pub invariant-loop-commit : goal.invariant-loop-commit
invariant-loop-commit l = l.sends ≡ all_spelled (flat_map (λ c. to_all c.stores (Commit c.tid)) (map commitment_of (take l.commit-index l.commits)))
