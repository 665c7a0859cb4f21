use Rattle.std.proofs.Common.{◌≡◌, length, true}
use Rattle.fab_base.specs.FlatMap.{ascends}
use Rattle.fab_rights.specs.Computed.{has_bit}
use Rattle.fab_trusted.specs.Trusted.{replayed_from, trusted_replay}
use Rattle.fab_trust.proofs.replaying.trusted_replay.Given as goal

abbrev pub invariant-loop-commit : goal.invariant-loop-commit
invariant-loop-commit l = record {
  ascending : ascends l.map ≡ true;
  so_far :
      replayed_from (has_bit l.part.labels) (has_bit l.part.classes) l.start l.map l.rest l.left
      ≡ trusted_replay (has_bit l.part.labels) (has_bit l.part.classes) l.start l.commits l.endorsed;
}

abbrev pub decreases-loop-commit : goal.decreases-loop-commit
decreases-loop-commit l = length l.rest
