use Rattle.std.proofs.Common.{◌≤◌, refl, sym, subst, ◌∙◌, OnOk, arith}
use Rattle.fab_queues.specs.Channels.{Traffic, traffic_at, queue_of, sent_of, spare_of}
use Rattle.fab_queues.proofs.Pairs.{here_is, kept, opened, pair-each, pair-same, turned}
use Rattle.fab_queues.proofs.queues.Queues.reserve.Goals as goal

pub returns-clause-made : goal.returns-clause-made
unfolding spare_of
returns-clause-made c =
    let o = opened c.self.view_is c.requires.from c.requires.to c.self.invariant c.place-at.ensures.place c.index_mut.ensures.value in
    subst (λ n. OnOk c.reserve.result (c.args.more ≤ n)) (sym (turned (λ (t : Traffic). t.spare) o c.reserve.new.self (c.reserve.new.self.spare) (refl) c.args.a c.args.b ∙ pair-same (λ x y. (traffic_at c.args.self.now x y).spare) c.args.a c.args.b c.reserve.new.self.spare c.args.a c.args.b refl refl)) c.reserve.ensures.made

pub returns-clause-sent : goal.returns-clause-sent
unfolding sent_of
returns-clause-sent c =
    let o = opened c.self.view_is c.requires.from c.requires.to c.self.invariant c.place-at.ensures.place c.index_mut.ensures.value in
    λ x y. kept (λ (t : Traffic). t.sent) o c.reserve.new.self (c.reserve.ensures.sent) x y

pub returns-clause-queue : goal.returns-clause-queue
unfolding queue_of
returns-clause-queue c =
    let o = opened c.self.view_is c.requires.from c.requires.to c.self.invariant c.place-at.ensures.place c.index_mut.ensures.value in
    λ x y. kept (λ (t : Traffic). t.waiting) o c.reserve.new.self (c.reserve.ensures.waiting) x y

pub returns-clause-spare : goal.returns-clause-spare
unfolding spare_of
returns-clause-spare c =
    let o = opened c.self.view_is c.requires.from c.requires.to c.self.invariant c.place-at.ensures.place c.index_mut.ensures.value in
    λ x y. subst (λ n. (traffic_at c.args.self.now x y).spare ≤ n) (sym (turned (λ (t : Traffic). t.spare) o c.reserve.new.self (c.reserve.new.self.spare) (refl) x y))
    (pair-each (λ x y n. (traffic_at c.args.self.now x y).spare ≤ n) (λ x y. (traffic_at c.args.self.now x y).spare) c.args.a c.args.b c.reserve.new.self.spare
    (subst (λ (t : Traffic). t.spare ≤ c.reserve.new.self.spare) (sym (here_is o)) c.reserve.ensures.spare) (λ x y. omega arith) x y)
