use Rattle.std.proofs.Common.{◌≡◌, IfOk, subst}
use Rattle.fab_language.specs.Numbers.{resolved}
use Rattle.fab_command.specs.declared.command.Command.TheVariants as asks
use Rattle.fab_front.specs.Lines.{label_line, name_line}
use Rattle.fab_front.specs.declared.status.Status.TheVariants as status
use Rattle.fab_front.proofs.Accepting.{if_told, within}
use Rattle.fab_answers.specs.Says.{IsSaid}
use Rattle.fab_answers.proofs.Saying.{checked_said, label_said, name_said}
use Rattle.fab_answers.proofs.bundles.checked.Goals as goal

pub accept-requires : goal.accept-requires
accept-requires c = within c.requires.is

pub returns-in-Bundle : goal.returns-in-Bundle
returns-in-Bundle c =
    let p = rw c.in-Bundle.is at c.in_ok-accept.ensures in
    rw c.in_ok-from_slice-in-Bundle.ensures (checked_said c.requires p.0 p.2)

pub returns-in-Misnamed : goal.returns-in-Misnamed
returns-in-Misnamed c =
    let x = c.in-Misnamed.fault in
    let p = rw c.in-Misnamed.is at c.in_ok-accept.ensures in
    if_told (IsSaid asks.Check c.args.text.now) (status.Name x.rule x.at) (name_line x.rule x.at) c.refused.result c.refused.ensures (name_said c.requires {command = asks.Check} tt p)

pub returns : goal.returns
returns c =
    let x = c.in-Mislabelled.refusal in
    let p = rw c.in-Mislabelled.is at c.in_ok-accept.ensures in
    if_told (IsSaid asks.Check c.args.text.now) (status.Label x.rule x.at x.source x.target) (label_line (resolved c.args.start.now) x) c.mislabelled.result
    (subst (λ y. IfOk c.mislabelled.result (λ t. (t.0 ≡ status.Label x.rule x.at x.source x.target) × (t.1 ≡ label_line y x))) p.1 c.mislabelled.ensures)
    (label_said c.requires {command = asks.Check} tt p.0 p.2)
