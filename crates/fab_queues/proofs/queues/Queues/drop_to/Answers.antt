use Rattle.std.proofs.Common.{◌<◌, ◌≤◌, [], refl, sym, ap, subst, ◌∙◌, arith}
use Rattle.fab_queues.specs.Channels.{Network, Traffic, queue_of}
use Rattle.fab_queues.proofs.Pairs.{outside_sender, replaced_all, replaced_more, replaced_none}
use Rattle.fab_queues.proofs.queues.Queues.drop_to.Goals as goal

pub clear-requires-clause-from : goal.clear-requires-clause-from
clear-requires-clause-from c =
    subst (λ n. c.loop-a.a < n) (ap (λ (n : Network). n.nodes) c.self.view_is ∙ sym c.loop-a.invariant.nodes) c.loop-a-test.true

pub clear-requires-clause-to : goal.clear-requires-clause-to
clear-requires-clause-to c = subst (λ n. c.args.node < n) (sym c.loop-a.invariant.nodes) c.requires

pub loop-a-init : goal.loop-a-init
loop-a-init c = record { nodes = refl; sent = λ x y. refl; queue = replaced_none (queue_of c.args.self.now) c.args.node []; spare = λ x y. refl }

pub loop-a-preserved : goal.loop-a-preserved
loop-a-preserved c = record {
  nodes = c.clear.ensures.nodes ∙ c.loop-a.invariant.nodes;
  sent = λ x y. c.clear.ensures.sent x y ∙ c.loop-a.invariant.sent x y;
  queue = replaced_more (queue_of c.args.self.now) (queue_of c.loop-a.self) (queue_of c.clear.new.self) c.args.node c.loop-a.a [] c.loop-a.invariant.queue c.clear.ensures.queue;
  spare = λ x y. c.clear.ensures.spare x y ∙ c.loop-a.invariant.spare x y;
}

pub returns-clause-queue : goal.returns-clause-queue
unfolding queue_of
returns-clause-queue c =
    let all : c.args.self.now.nodes ≤ c.loop-a.a = subst (λ n. n ≤ c.loop-a.a) (ap (λ (n : Network). n.nodes) c.self.view_is) c.loop-a-test.false in
    replaced_all (queue_of c.args.self.now) (queue_of c.loop-a.self) c.args.node c.loop-a.a [] c.loop-a.invariant.queue
    (λ x y h. ap (λ (t : Traffic). t.waiting) (outside_sender c.args.self.now.nodes c.args.self.now.pairs x y (omega arith)))
