use Rattle.std.proofs.Common.{◌≡◌, map, take}
use Rattle.fab_net.specs.declared.note.Commit.{Commit}
use Rattle.fab_base.specs.FlatMap.{map_of}
use Rattle.fab_protocol.specs.Versions.{objects_of}
use Rattle.fab_settings.specs.Settings.{meant_of, request_at}
use Rattle.fab_trust.specs.Endorsing.{values_let_in}
use Rattle.fab_trust.proofs.endorsing.endorsed.Given as goal

abbrev pub invariant-loop-commit : goal.invariant-loop-commit
invariant-loop-commit l =
    l.all ≡ map (λ (c : Commit). values_let_in l.doors (meant_of l.checked.start.now (request_at l.checked.start.now c.worker c.request) c.tid (map_of (objects_of c.answers))).downs) (take l.commit-index l.commits)
