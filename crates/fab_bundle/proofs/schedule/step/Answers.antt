use Rattle.fab_reading.specs.Reading.{any}
use Rattle.fab_reading.proofs.TokenRules.{name_text}
use Rattle.fab_parser.proofs.Chains.{exit, free, ◌>>◌, free_stops}
use Rattle.fab_parser.proofs.PartRules.{any_weak, last_read, last_stops}
use Rattle.fab_bundle.proofs.EventRules.{begin_start, resume_start, deliver_start, idle_start, recover_start, step_refused}
use Rattle.fab_bundle.proofs.schedule.step.Goals as goal

pub returns-in_err-worker : goal.returns-in_err-worker
returns-in_err-worker c =
    exit _ _ _ c.from_residual.result c.from_residual.ensures.1
    (last_stops any (any_weak any) c.in_err-worker.field-0.0 (begin_start c.in-Some.ensures) c.in_err-worker.ensures)

pub returns-in-Some : goal.returns-in-Some
returns-in-Some c = last_read (any_weak any) (begin_start c.in-Some.ensures) c.in_ok-worker.ensures

pub returns-in_err-worker-2 : goal.returns-in_err-worker-2
returns-in_err-worker-2 c =
    exit _ _ _ c.from_residual-in_err-worker-2.result c.from_residual-in_err-worker-2.ensures.1
    (last_stops any (any_weak any) c.in_err-worker-2.field-0.0 (resume_start c.in-Some-behind.ensures) c.in_err-worker-2.ensures)

pub returns-in-Some-behind : goal.returns-in-Some-behind
returns-in-Some-behind c = last_read (any_weak any) (resume_start c.in-Some-behind.ensures) c.in_ok-worker-2.ensures

pub returns-in_err-sender : goal.returns-in_err-sender
returns-in_err-sender c =
    exit _ _ _ c.from_residual-in_err-sender.result c.from_residual-in_err-sender.ensures.1
    (free_stops c.in_err-sender.field-0.0 (deliver_start c.in-Some-behind-2.ensures) c.in_err-sender.ensures name_text)

pub returns-in_err-receiver : goal.returns-in_err-receiver
returns-in_err-receiver c =
    exit _ _ _ c.from_residual-in_err-receiver.result c.from_residual-in_err-receiver.ensures.1
    (last_stops any (any_weak any) c.in_err-receiver.field-0.0 (deliver_start c.in-Some-behind-2.ensures >> free c.in_ok-sender.ensures) c.in_err-receiver.ensures)

pub returns-in-Some-behind-2 : goal.returns-in-Some-behind-2
returns-in-Some-behind-2 c =
    last_read (any_weak any) (deliver_start c.in-Some-behind-2.ensures >> free c.in_ok-sender.ensures) c.in_ok-receiver.ensures

pub returns-in_err-worker-3 : goal.returns-in_err-worker-3
returns-in_err-worker-3 c =
    exit _ _ _ c.from_residual-in_err-worker-3.result c.from_residual-in_err-worker-3.ensures.1
    (free_stops c.in_err-worker-3.field-0.0 (idle_start c.in-Some-behind-3.ensures) c.in_err-worker-3.ensures name_text)

pub returns-in_err-node : goal.returns-in_err-node
returns-in_err-node c =
    exit _ _ _ c.from_residual-in_err-node.result c.from_residual-in_err-node.ensures.1
    (last_stops any (any_weak any) c.in_err-node.field-0.0 (idle_start c.in-Some-behind-3.ensures >> free c.in_ok-worker-3.ensures) c.in_err-node.ensures)

pub returns-in-Some-behind-3 : goal.returns-in-Some-behind-3
returns-in-Some-behind-3 c = last_read (any_weak any) (idle_start c.in-Some-behind-3.ensures >> free c.in_ok-worker-3.ensures) c.in_ok-node.ensures

pub returns-in_err-node-2 : goal.returns-in_err-node-2
returns-in_err-node-2 c =
    exit _ _ _ c.from_residual-in_err-node-2.result c.from_residual-in_err-node-2.ensures.1
    (last_stops any (any_weak any) c.in_err-node-2.field-0.0 (recover_start c.in-Some-behind-4.ensures) c.in_err-node-2.ensures)

pub returns-in-Some-behind-4 : goal.returns-in-Some-behind-4
returns-in-Some-behind-4 c = last_read (any_weak any) (recover_start c.in-Some-behind-4.ensures) c.in_ok-node-2.ensures

pub returns : goal.returns
returns c =
    step_refused c.args.tokens.now c.in_default.ensures c.in_default-behind.ensures c.in_default-behind-2.ensures c.in_default-behind-3.ensures
    c.in_default-behind-4.ensures
