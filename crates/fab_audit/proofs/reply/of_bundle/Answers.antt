use Rattle.std.proofs.Common.{◌∙◌, ap, sym}
use Rattle.fab_command.specs.declared.command.Command.TheVariants.{Check}
use Rattle.fab_front.specs.Lines.{label_line}
use Rattle.fab_front.specs.Refused.{mislabelled, misnamed}
use Rattle.fab_front.proofs.Accepting.{within}
use Rattle.fab_answers.proofs.Saying.{label_said, name_said}
use Rattle.fab_audit.proofs.Replies.{is_refused, told_as}
use Rattle.fab_audit.proofs.reply.of_bundle.Goals as goal

pub accept-requires : goal.accept-requires
accept-requires c = within c.requires.is

pub accepted_setup-requires : goal.accepted_setup-requires
accepted_setup-requires c =
    let p = rw c.in-Bundle.is at c.in_ok-program.ensures in
    (c.args.start.now, sym p.1, record { within = within c.requires.is; named = p.0; labelled = p.2 })

pub returns-in_ok-accepted_setup-in-Bundle : goal.returns-in_ok-accepted_setup-in-Bundle
returns-in_ok-accepted_setup-in-Bundle c =
    let p = rw c.in-Bundle.is at c.in_ok-program.ensures in
    let e = c.in_ok-accepted_setup-in-Bundle.ensures in
    record {
      start = c.args.start.now;
      front = c.requires;
      numbers = sym (e.program ∙ p.1);
      accepted = e.accepted c.args.start.now (sym p.1) (record { within = within c.requires.is; named = p.0; labelled = p.2 });
    }

pub returns-in_ok-status-in-Misnamed : goal.returns-in_ok-status-in-Misnamed
returns-in_ok-status-in-Misnamed c =
    let first = rw c.in-Misnamed.is at c.in_ok-program.ensures in
    told_as (is_refused (misnamed tt c.requires.is first) (name_said c.requires {command = Check} tt first)) c.in_ok-status-in-Misnamed.ensures.0 c.in_ok-status-in-Misnamed.ensures.1

pub returns-in_ok-status-in-Mislabelled : goal.returns-in_ok-status-in-Mislabelled
returns-in_ok-status-in-Mislabelled c =
    let p = rw c.in-Mislabelled.is at c.in_ok-program.ensures in
    told_as (is_refused (mislabelled tt c.requires.is p.0 p.2) (label_said c.requires {command = Check} tt p.0 p.2)) c.in_ok-status-in-Mislabelled.ensures.0
    (c.in_ok-status-in-Mislabelled.ensures.1 ∙ ap (λ r. label_line r c.in-Mislabelled.refusal) p.1)
