use Rattle.std.proofs.Common.{sym, ◌∙◌}
use Rattle.fab_nodes.specs.Transit.{is_up_at}
use Rattle.fab_nodes.proofs.Sent.{lost_out, pushed_out}
use Rattle.fab_nodes.proofs.sending.send_one.Goals as goal

pub returns-then-is_up-clause-sent : goal.returns-then-is_up-clause-sent
returns-then-is_up-clause-sent g c =
    pushed_out c.args.rights.now (is_up_at c.args.nodes.now) c.args.n c.args.to c.args.bytes c.args.queues.now c.push.new.self
    (sym c.is_node.ensures ∙ c.if-is_node.true) c.push.ensures.nodes c.push.ensures.sent (sym c.is_up.ensures ∙ c.if-is_up.true) c.push.ensures.queue

pub returns-else-is_up-clause-sent : goal.returns-else-is_up-clause-sent
returns-else-is_up-clause-sent g c =
    let down = sym c.is_up.ensures ∙ c.if-is_up.false in
    lost_out c.args.rights.now (is_up_at c.args.nodes.now) c.args.n c.args.to c.args.bytes c.args.queues.now c.lose.new.self
    (sym c.is_node.ensures ∙ c.if-is_node.true) c.lose.ensures.nodes c.lose.ensures.sent down (c.requires.idle down) c.lose.ensures.queue
