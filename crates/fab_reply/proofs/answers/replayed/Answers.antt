use Rattle.std.proofs.Common.{◌≡◌, Some, IfOk, length, subst}
use Rattle.fab_language.specs.Numbers.{resolved}
use Rattle.fab_language.specs.declared.rule.NameRule.TheVariants.{Unknown}
use Rattle.fab_front.specs.Lines.{label_line, name_line}
use Rattle.fab_reply.specs.Reply.{Answers, one_reply}
use Rattle.fab_front.specs.declared.status.Status.TheVariants as status
use Rattle.fab_front.proofs.Accepting.{if_told, short, within}
use Rattle.fab_answers.proofs.Saying.{label_said, name_said, unknown_said}
use Rattle.fab_reply.proofs.Replying.{said_reply}
use Rattle.fab_reply.proofs.Wishes.{asks_labels, asks_names}
use Rattle.std.proofs.Common.{sym}
use Rattle.fab_tree.specs.declared.resolved.Resolved.{Resolved}
use Rattle.fab_places.specs.Places.{HasNumbers}
use Rattle.fab_setup.proofs.Numbers.{numbered}
use Rattle.fab_reply.proofs.Watching.{can_be_seen}
use Rattle.fab_reply.proofs.answers.replayed.Goals as goal

pub set_of-requires-clause-seen : goal.set_of-requires-clause-seen
set_of-requires-clause-seen g c =
    let p = rw c.in-Bundle.is at c.in_ok-program.ensures in
    can_be_seen c.args.start.now c.in-Bundle.program (within c.requires.front.is) p.0 p.1

pub set_of-requires-clause-numbers : goal.set_of-requires-clause-numbers
set_of-requires-clause-numbers g c =
    let p = rw c.in-Bundle.is at c.in_ok-program.ensures in
    subst (λ (r : Resolved). HasNumbers r) (sym p.1) (numbered c.args.start.now (within c.requires.front.is))

pub set_of-requires-in-Mislabelled-clause-seen : goal.set_of-requires-in-Mislabelled-clause-seen
set_of-requires-in-Mislabelled-clause-seen g c =
    let p = rw c.in-Mislabelled.is at c.in_ok-program.ensures in
    can_be_seen c.args.start.now c.in-Mislabelled.resolved (within c.requires.front.is) p.0 p.1

pub set_of-requires-in-Mislabelled-clause-numbers : goal.set_of-requires-in-Mislabelled-clause-numbers
set_of-requires-in-Mislabelled-clause-numbers g c =
    let p = rw c.in-Mislabelled.is at c.in_ok-program.ensures in
    subst (λ (r : Resolved). HasNumbers r) (sym p.1) (numbered c.args.start.now (within c.requires.front.is))

pub accept-requires : goal.accept-requires
accept-requires g c = within c.requires.front.is

pub returns-in-Bundle-clause-replies : goal.returns-in-Bundle-clause-replies
returns-in-Bundle-clause-replies g c =
    let p = rw c.in-Bundle.is at c.in_ok-program.ensures in
    let n = length c.args.text.now in
    if_told (Answers (Some c.args.command.now) c.args.text.now) (status.Name Unknown n) (name_line Unknown n) c.unknown.result c.unknown.ensures
    (one_reply (said_reply (unknown_said c.requires.front {command = c.args.command.now} ((rw c.in-None.is at c.in_ok-set-in-Bundle.ensures) c.args.start.now p.1) p.0)))

pub returns-in-Misnamed-clause-replies : goal.returns-in-Misnamed-clause-replies
returns-in-Misnamed-clause-replies g c =
    let x = c.in-Misnamed.fault in
    let p = rw c.in-Misnamed.is at c.in_ok-program.ensures in
    if_told (Answers (Some c.args.command.now) c.args.text.now) (status.Name x.rule x.at) (name_line x.rule x.at) c.refused.result c.refused.ensures
    (one_reply (said_reply (name_said c.requires.front {command = c.args.command.now} (asks_names c.args.command.now c.requires.runs) p)))

pub returns-in-Some-2-clause-replies : goal.returns-in-Some-2-clause-replies
returns-in-Some-2-clause-replies g c =
    let x = c.in-Mislabelled.refusal in
    let p = rw c.in-Mislabelled.is at c.in_ok-program.ensures in
    let asks = asks_labels c.args.start.now c.args.command.now _ c.requires.runs ((rw c.in-Some-2.is at c.in_ok-set_of-in-Mislabelled.ensures) c.args.start.now p.1) in
    if_told (Answers (Some c.args.command.now) c.args.text.now) (status.Label x.rule x.at x.source x.target) (label_line (resolved c.args.start.now) x) c.mislabelled.result
    (subst (λ y. IfOk c.mislabelled.result (λ t. (t.0 ≡ status.Label x.rule x.at x.source x.target) × (t.1 ≡ label_line y x))) p.1 c.mislabelled.ensures)
    (one_reply (said_reply (label_said c.requires.front {command = c.args.command.now} asks p.0 p.2)))

pub unknown-requires-in-None-2 : goal.unknown-requires-in-None-2
unknown-requires-in-None-2 g c = short c.requires.front.is

pub returns-clause-replies : goal.returns-clause-replies
returns-clause-replies g c =
    let p = rw c.in-Mislabelled.is at c.in_ok-program.ensures in
    let n = length c.args.text.now in
    if_told (Answers (Some c.args.command.now) c.args.text.now) (status.Name Unknown n) (name_line Unknown n) c.unknown-in-None-2.result c.unknown-in-None-2.ensures
    (one_reply (said_reply (unknown_said c.requires.front {command = c.args.command.now} ((rw c.in-None-2.is at c.in_ok-set_of-in-Mislabelled.ensures) c.args.start.now p.1) p.0)))
