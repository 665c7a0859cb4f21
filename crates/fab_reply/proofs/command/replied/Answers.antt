use Rattle.std.proofs.Common.{sym, ◌∙◌, true≢false}
use Rattle.fab_reply.specs.Reply.{one_reply}
use Rattle.fab_device.specs.Kept.{Makers}
use Rattle.fab_reply.proofs.Replying.{said_reply}
use Rattle.fab_reply.proofs.Saying.{all_left, answered_audit, answered_infer, asked_else, audit_left, is_left, runs_else}
use Rattle.fab_reply.proofs.command.replied.Goals as goal

pub returns-then-judges-clause-replies : goal.returns-then-judges-clause-replies
returns-then-judges-clause-replies g c =
    answered_audit c.args.command.now c.args.text.now c.audited.result (c.judges.ensures.0 c.if-judges.true) c.audited.ensures

pub returns-then-judges-clause-journals : goal.returns-then-judges-clause-journals
returns-then-judges-clause-journals g c =
    let J = g.M.Journals in
    let old : Makers = J.seen c.args.journals.now in
    audit_left c.args.command.now c.args.text.now old c.audited.result (c.judges.ensures.0 c.if-judges.true)

pub said_of-requires : goal.said_of-requires
said_of-requires g c = asked_else c.args.command.now (λ is. true≢false (sym (c.judges.ensures.1 is) ∙ c.if-judges.false))

pub returns-in-Reply-clause-replies : goal.returns-in-Reply-clause-replies
returns-in-Reply-clause-replies g c = let p = rw c.in-Reply.is at c.in_ok-status.ensures in one_reply (said_reply p)

pub returns-in-Reply-clause-journals : goal.returns-in-Reply-clause-journals
returns-in-Reply-clause-journals g c = let p = rw c.in-Reply.is at c.in_ok-status.ensures in is_left _ p.is

pub replayed-requires-clause-front : goal.replayed-requires-clause-front
replayed-requires-clause-front g c κs bounds = let p = rw c.in-Bundle.is at c.in_ok-status.ensures in p.1

pub replayed-requires-clause-runs : goal.replayed-requires-clause-runs
replayed-requires-clause-runs g c κs bounds =
    let p = rw c.in-Bundle.is at c.in_ok-status.ensures in
    runs_else c.args.command.now p.0 (λ is. true≢false (sym (c.fills_holes.ensures.1 is) ∙ c.if-fills_holes.false))

pub returns-then-fills_holes-clause-replies : goal.returns-then-fills_holes-clause-replies
returns-then-fills_holes-clause-replies g c =
    let p = rw c.in-Bundle.is at c.in_ok-status.ensures in
    let is = c.fills_holes.ensures.0 c.if-fills_holes.true in
    answered_infer c.args.command.now c.args.text.now c.in-Bundle.start c.inferred.result is p.1 c.inferred.ensures

pub returns-else-fills_holes-clause-journals : goal.returns-else-fills_holes-clause-journals
returns-else-fills_holes-clause-journals g c =
    let J = g.M.Journals in
    let p = rw c.in-Bundle.is at c.in_ok-status.ensures in
    let old : Makers = J.seen c.args.journals.now in
    let new : Makers = J.seen c.replayed.new.journals in
    let runs = runs_else c.args.command.now p.0 (λ is. true≢false (sym (c.fills_holes.ensures.1 is) ∙ c.if-fills_holes.false)) in
    all_left c.args.command.now c.args.text.now old new c.replayed.result runs c.replayed.ensures.journals

pub returns-else-fills_holes-clause-untouched : goal.returns-else-fills_holes-clause-untouched
returns-else-fills_holes-clause-untouched g c none =
    let p = rw c.in-Bundle.is at c.in_ok-status.ensures in
    absurd (none (runs_else c.args.command.now p.0 (λ is. true≢false (sym (c.fills_holes.ensures.1 is) ∙ c.if-fills_holes.false))))
