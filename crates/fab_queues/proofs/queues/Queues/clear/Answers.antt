use Rattle.std.proofs.Common.{[], ap}
use Rattle.fab_queues.specs.Channels.{Traffic, queue_of, sent_of, spare_of}
use Rattle.fab_queues.proofs.Pairs.{kept, opened, turned}
use Rattle.fab_queues.proofs.queues.Queues.clear.Goals as goal

pub returns-clause-sent : goal.returns-clause-sent
unfolding sent_of
returns-clause-sent c =
    let o = opened c.self.view_is c.requires.from c.requires.to c.self.invariant c.place-at.ensures.place c.index_mut.ensures.value in
    λ x y. kept (λ (t : Traffic). t.sent) o c.clear.new.self (ap (λ (t : Traffic). t.sent) c.clear.ensures) x y

pub returns-clause-queue : goal.returns-clause-queue
unfolding queue_of
returns-clause-queue c =
    let o = opened c.self.view_is c.requires.from c.requires.to c.self.invariant c.place-at.ensures.place c.index_mut.ensures.value in
    λ x y. turned (λ (t : Traffic). t.waiting) o c.clear.new.self ([]) (ap (λ (t : Traffic). t.waiting) c.clear.ensures) x y

pub returns-clause-spare : goal.returns-clause-spare
unfolding spare_of
returns-clause-spare c =
    let o = opened c.self.view_is c.requires.from c.requires.to c.self.invariant c.place-at.ensures.place c.index_mut.ensures.value in
    λ x y. kept (λ (t : Traffic). t.spare) o c.clear.new.self (ap (λ (t : Traffic). t.spare) c.clear.ensures) x y
