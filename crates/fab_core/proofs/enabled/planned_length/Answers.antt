use Rattle.std.proofs.Common.{ap, ◌∙◌}
use Rattle.fab_core.proofs.Measured.{measured_delivery, measured_recovery, measured_silence}
use Rattle.fab_core.proofs.enabled.planned_length.Goals as goal

pub returns-in-Some-front-clause-length : goal.returns-in-Some-front-clause-length
returns-in-Some-front-clause-length g c =
    measured_delivery c.delivery_length.result c.args.nodes.now c.args.queues.now c.args.event c.in-Deliver.sender c.in-Deliver.receiver c.in-Some-front.bytes.now
    c.as_slice.result.now _ c.in-Deliver.is c.in-Some-front.ensures c.as_slice.ensures c.delivery_length.ensures.length

pub returns-in-Idle-clause-length : goal.returns-in-Idle-clause-length
returns-in-Idle-clause-length g c =
    measured_silence c.silence_length.result c.args.nodes.now c.args.queues.now c.args.event c.in-Idle.worker c.in-Idle.store c.in-Idle.is
    c.silence_length.ensures.length

pub returns-in-Recover-clause-length : goal.returns-in-Recover-clause-length
returns-in-Recover-clause-length g c =
    measured_recovery c.recovery_length.result c.args.nodes.now c.args.queues.now c.args.event c.in-Recover.node c.in-Recover.is c.recovery_length.ensures
