use Rattle.std.proofs.Common.{sym, subst, bit_or}
use Rattle.fab_reply.specs.Replays.{IsSetOf}
use Rattle.fab_reply.proofs.Watching.{named_set}
use Rattle.fab_reply.proofs.answers.set_of.Goals as goal

pub returns-in-Some : goal.returns-in-Some
returns-in-Some c s is =
    subst (λ k. IsSetOf s k (bit_or c.in-Some.named c.hostile_nodes.result)) (sym c.in-View.is)
    (named_set s c.args.program.now _ c.as_slice.result.now c.in-Some.named c.hostile_nodes.result is c.as_slice.ensures c.in-Some.ensures.names c.in-Some.ensures.nodes c.hostile_nodes.ensures)

pub returns-in-Some-nodes_named : goal.returns-in-Some-nodes_named
returns-in-Some-nodes_named c s is =
    subst (λ k. IsSetOf s k (bit_or c.in-Some-nodes_named.named c.hostile_nodes-in-Some-nodes_named.result)) (sym c.in-Trust.is)
    (named_set s c.args.program.now _ c.as_slice-in-Trust.result.now c.in-Some-nodes_named.named c.hostile_nodes-in-Some-nodes_named.result is c.as_slice-in-Trust.ensures
    c.in-Some-nodes_named.ensures.names c.in-Some-nodes_named.ensures.nodes c.hostile_nodes-in-Some-nodes_named.ensures)
