use Rattle.std.proofs.Common.{◌≡◌, IfOk, sym, ap, ◌∙◌, subst}
use Rattle.fab_language.specs.Evaluation.{evaluation_text}
use Rattle.fab_language.specs.Numbers.{resolved}
use Rattle.fab_command.specs.declared.command.Command.TheVariants as asks
use Rattle.fab_front.specs.Lines.{label_line, name_line}
use Rattle.fab_front.specs.declared.status.Status.TheVariants as status
use Rattle.fab_front.proofs.Accepting.{if_told, within}
use Rattle.fab_answers.specs.Says.{IsSaid}
use Rattle.fab_answers.proofs.Saying.{evaluated_said, label_said, name_said}
use Rattle.fab_answers.proofs.bundles.evaluate.Goals as goal

pub accept-requires : goal.accept-requires
accept-requires c = within c.requires.is

pub evaluation-requires : goal.evaluation-requires
evaluation-requires c =
    let p = rw c.in-Bundle.is at c.in_ok-resolved.ensures in
    record { start = c.args.start.now; within = within c.requires.is; right = p.0; is = p.1 }

pub returns-in_ok-reply-in-Bundle : goal.returns-in_ok-reply-in-Bundle
returns-in_ok-reply-in-Bundle c =
    let p = rw c.in-Bundle.is at c.in_ok-resolved.ensures in
    subst (λ x. IsSaid asks.Evaluate c.args.text.now status.Ok x) (sym (c.in_ok-reply-in-Bundle.ensures ∙ ap evaluation_text p.1)) (evaluated_said c.requires p.0 p.2)

pub returns-in-Misnamed : goal.returns-in-Misnamed
returns-in-Misnamed c =
    let x = c.in-Misnamed.fault in
    let p = rw c.in-Misnamed.is at c.in_ok-resolved.ensures in
    if_told (IsSaid asks.Evaluate c.args.text.now) (status.Name x.rule x.at) (name_line x.rule x.at) c.refused.result c.refused.ensures
    (name_said c.requires {command = asks.Evaluate} tt p)

pub returns-in-Mislabelled : goal.returns-in-Mislabelled
returns-in-Mislabelled c =
    let x = c.in-Mislabelled.refusal in
    let p = rw c.in-Mislabelled.is at c.in_ok-resolved.ensures in
    if_told (IsSaid asks.Evaluate c.args.text.now) (status.Label x.rule x.at x.source x.target) (label_line (resolved c.args.start.now) x) c.mislabelled.result
    (subst (λ y. IfOk c.mislabelled.result (λ t. (t.0 ≡ status.Label x.rule x.at x.source x.target) × (t.1 ≡ label_line y x))) p.1 c.mislabelled.ensures)
    (label_said c.requires {command = asks.Evaluate} tt p.0 p.2)
