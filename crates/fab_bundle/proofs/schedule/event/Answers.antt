use Rattle.fab_reading.specs.Reading.{any}
use Rattle.fab_reading.proofs.Rules.{not_true}
use Rattle.fab_parser.proofs.Chains.{exit, free, ◌>>◌, free_stops}
use Rattle.fab_parser.proofs.PartRules.{any_weak, last_read, last_stops}
use Rattle.fab_bundle.proofs.EventRules.{step_text, cut_start, posted_start, crashed_start, stepped_start, event_refused}
use Rattle.fab_bundle.proofs.schedule.event.Goals as goal

pub returns-in_err-step : goal.returns-in_err-step
returns-in_err-step c =
    exit _ _ _ c.from_residual.result c.from_residual.ensures.1
    (last_stops any (any_weak any) c.in_err-step.field-0.0 (stepped_start c.args.tokens.now (c.starts_step.ensures.0 c.if-starts_step.true)) c.in_err-step.ensures)

pub returns-then-starts_step : goal.returns-then-starts_step
returns-then-starts_step c =
    last_read (any_weak any) (stepped_start c.args.tokens.now (c.starts_step.ensures.0 c.if-starts_step.true)) c.in_ok-step.ensures

pub returns-in_err-keep : goal.returns-in_err-keep
returns-in_err-keep c =
    exit _ _ _ c.from_residual-in_err-keep.result c.from_residual-in_err-keep.ensures.1
    (free_stops c.in_err-keep.field-0.0 (cut_start c.in-Some.ensures) c.in_err-keep.ensures step_text)

pub returns-in_err-step-2 : goal.returns-in_err-step-2
returns-in_err-step-2 c =
    exit _ _ _ c.from_residual-in_err-step-2.result c.from_residual-in_err-step-2.ensures.1
    (last_stops any (any_weak any) c.in_err-step-2.field-0.0 (cut_start c.in-Some.ensures >> free c.in_ok-keep.ensures) c.in_err-step-2.ensures)

pub returns-in-Some : goal.returns-in-Some
returns-in-Some c = last_read (any_weak any) (cut_start c.in-Some.ensures >> free c.in_ok-keep.ensures) c.in_ok-step-2.ensures

pub returns-in_err-sender : goal.returns-in_err-sender
returns-in_err-sender c =
    exit _ _ _ c.from_residual-in_err-sender.result c.from_residual-in_err-sender.ensures.1
    (last_stops any (any_weak any) c.in_err-sender.field-0.0 (posted_start c.in-Some-behind.ensures) c.in_err-sender.ensures)

pub returns-in-Some-behind : goal.returns-in-Some-behind
returns-in-Some-behind c = last_read (any_weak any) (posted_start c.in-Some-behind.ensures) c.in_ok-sender.ensures

pub returns-in_err-node : goal.returns-in_err-node
returns-in_err-node c =
    exit _ _ _ c.from_residual-in_err-node.result c.from_residual-in_err-node.ensures.1
    (last_stops any (any_weak any) c.in_err-node.field-0.0 (crashed_start c.in-Some-behind-2.ensures) c.in_err-node.ensures)

pub returns-in-Some-behind-2 : goal.returns-in-Some-behind-2
returns-in-Some-behind-2 c = last_read (any_weak any) (crashed_start c.in-Some-behind-2.ensures) c.in_ok-node.ensures

pub returns : goal.returns
returns c =
    event_refused c.args.tokens.now (λ s. not_true c.if-starts_step.false (c.starts_step.ensures.1 s)) c.in_default.ensures c.in_default-behind.ensures
    c.in_default-behind-2.ensures
