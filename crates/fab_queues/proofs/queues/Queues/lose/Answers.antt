use Rattle.std.proofs.Common.{◌<◌, ◌-◌, ◌++◌, ◌∷◌, [], sym, ap, subst, ◌∙◌}
use Rattle.fab_queues.specs.Channels.{Traffic, queue_of, sent_of, spare_of}
use Rattle.fab_queues.proofs.Pairs.{here_is, kept, opened, turned}
use Rattle.fab_queues.proofs.queues.Queues.lose.Goals as goal

pub lose-requires : goal.lose-requires
unfolding spare_of
lose-requires c =
    let o = opened c.self.view_is c.requires.from c.requires.to c.self.invariant c.place-at.ensures.place c.index_mut.ensures.value in
    subst (λ (t : Traffic). 0 < t.spare) (here_is o) c.requires.room

pub returns-clause-sent : goal.returns-clause-sent
unfolding sent_of
returns-clause-sent c =
    let o = opened c.self.view_is c.requires.from c.requires.to c.self.invariant c.place-at.ensures.place c.index_mut.ensures.value in
    λ x y. turned (λ (t : Traffic). t.sent) o c.lose.new.self (sent_of c.args.self.now c.args.a c.args.b ++ c.args.bytes ∷ []) (ap (λ (t : Traffic). t.sent) c.lose.ensures ∙ ap (λ (t : Traffic). t.sent ++ c.args.bytes ∷ []) (sym (here_is o))) x y

pub returns-clause-queue : goal.returns-clause-queue
unfolding queue_of
returns-clause-queue c =
    let o = opened c.self.view_is c.requires.from c.requires.to c.self.invariant c.place-at.ensures.place c.index_mut.ensures.value in
    λ x y. turned (λ (t : Traffic). t.waiting) o c.lose.new.self ([]) (ap (λ (t : Traffic). t.waiting) c.lose.ensures) x y

pub returns-clause-still_empty : goal.returns-clause-still_empty
unfolding queue_of
returns-clause-still_empty c =
    let o = opened c.self.view_is c.requires.from c.requires.to c.self.invariant c.place-at.ensures.place c.index_mut.ensures.value in
    λ none. λ x y. kept (λ (t : Traffic). t.waiting) o c.lose.new.self (ap (λ (t : Traffic). t.waiting) c.lose.ensures ∙ sym none ∙ ap (λ (t : Traffic). t.waiting) (here_is o)) x y

pub returns-clause-spare : goal.returns-clause-spare
unfolding spare_of
returns-clause-spare c =
    let o = opened c.self.view_is c.requires.from c.requires.to c.self.invariant c.place-at.ensures.place c.index_mut.ensures.value in
    λ x y. turned (λ (t : Traffic). t.spare) o c.lose.new.self (spare_of c.args.self.now c.args.a c.args.b - 1) (ap (λ (t : Traffic). t.spare) c.lose.ensures ∙ ap (λ (t : Traffic). t.spare - 1) (sym (here_is o))) x y
