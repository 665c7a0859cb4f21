use Rattle.std.proofs.Common.{◌≡◌, ◌-◌, drop, length}
use Rattle.fab_trace.specs.Targets.{targets_in}
use Rattle.fab_trace.proofs.targets.next_target.Given as goal

abbrev pub invariant-posts : goal.invariant-posts
invariant-posts l = targets_in l.sender (drop l.at l.posts) ≡ targets_in l.sender (drop l.from l.posts)

abbrev pub decreases-posts : goal.decreases-posts
decreases-posts l = length l.posts - l.at
