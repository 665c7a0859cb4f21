use Rattle.std.proofs.Common.{ap}
use Rattle.fab_queues.specs.Channels.{Traffic, queue_of, sent_of}
use Rattle.fab_queues.proofs.Pairs.{no_pair}
use Rattle.fab_queues.proofs.queues.Queues.make.Goals as goal

pub returns-clause-sent : goal.returns-clause-sent
unfolding sent_of
returns-clause-sent c = λ x y. ap (λ (t : Traffic). t.sent) (no_pair c.args.nodes _ c.in_ok-channels.field-0.items c.in_ok-channels.ensures x y)

pub returns-clause-queue : goal.returns-clause-queue
unfolding queue_of
returns-clause-queue c = λ x y. ap (λ (t : Traffic). t.waiting) (no_pair c.args.nodes _ c.in_ok-channels.field-0.items c.in_ok-channels.ensures x y)
