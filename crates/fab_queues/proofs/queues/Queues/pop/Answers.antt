use Rattle.std.proofs.Common.{◌<◌, length, sym, ap, subst, ◌∙◌}
use Rattle.fab_queues.specs.Channels.{Traffic, queue_of, rest_of, sent_of, spare_of}
use Rattle.fab_queues.proofs.Pairs.{here_is, kept, opened, turned}
use Rattle.fab_queues.proofs.queues.Queues.pop.Goals as goal

pub pop-requires : goal.pop-requires
unfolding queue_of
pop-requires c =
    let o = opened c.self.view_is c.requires.from c.requires.to c.self.invariant c.place-at.ensures.place c.index_mut.ensures.value in
    subst (λ (t : Traffic). 0 < length t.waiting) (here_is o) c.requires.waiting

pub returns-clause-sent : goal.returns-clause-sent
unfolding sent_of
returns-clause-sent c =
    let o = opened c.self.view_is c.requires.from c.requires.to c.self.invariant c.place-at.ensures.place c.index_mut.ensures.value in
    λ x y. kept (λ (t : Traffic). t.sent) o c.pop.new.self (ap (λ (t : Traffic). t.sent) c.pop.ensures) x y

pub returns-clause-queue : goal.returns-clause-queue
unfolding queue_of
returns-clause-queue c =
    let o = opened c.self.view_is c.requires.from c.requires.to c.self.invariant c.place-at.ensures.place c.index_mut.ensures.value in
    λ x y. turned (λ (t : Traffic). t.waiting) o c.pop.new.self (rest_of (queue_of c.args.self.now c.args.a c.args.b)) (ap (λ (t : Traffic). t.waiting) c.pop.ensures ∙ ap (λ (t : Traffic). rest_of t.waiting) (sym (here_is o))) x y

pub returns-clause-spare : goal.returns-clause-spare
unfolding spare_of
returns-clause-spare c =
    let o = opened c.self.view_is c.requires.from c.requires.to c.self.invariant c.place-at.ensures.place c.index_mut.ensures.value in
    λ x y. kept (λ (t : Traffic). t.spare) o c.pop.new.self (ap (λ (t : Traffic). t.spare) c.pop.ensures) x y
