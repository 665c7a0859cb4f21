use Rattle.std.proofs.Common.{◌≡◌, length}
use Rattle.fab_holes.specs.Passes.{put_all}
use Rattle.fab_infer.proofs.closing.put_all.Given as goal

abbrev pub invariant-flows : goal.invariant-flows
invariant-flows l = put_all l.count l.masks l.rest ≡ put_all l.count l.initial.masks l.flows

abbrev pub decreases-flows : goal.decreases-flows
decreases-flows l = length l.rest
