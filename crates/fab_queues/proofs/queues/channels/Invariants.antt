use Rattle.std.proofs.Common.{◌≡◌, replicate}
use Rattle.fab_queues.specs.Channels.{no_traffic}
use Rattle.fab_queues.proofs.queues.channels.Given as goal

abbrev pub invariant-loop-pair : goal.invariant-loop-pair
invariant-loop-pair l = l.made.items ≡ replicate l._pair no_traffic
