use Rattle.std.proofs.Common.{inl, inr, sym, ap, ◌∙◌, subst, length, option_copied}
use Rattle.std.specs.Str.{bytes_eq}
use Rattle.fab_flows.proofs.Declared.{owners_of_found}
use Rattle.fab_language.specs.Flows.{IsFlowReply}
use Rattle.fab_language.specs.declared.rule.NameRule.TheVariants.{Unknown}
use Rattle.fab_command.specs.declared.command.Command.TheVariants as asks
use Rattle.fab_front.specs.Lines.{name_line}
use Rattle.fab_front.specs.declared.status.Status.TheVariants as status
use Rattle.fab_front.proofs.Accepting.{held, if_told, short, within}
use Rattle.fab_answers.specs.Says.{IsSaid}
use Rattle.fab_answers.proofs.Labels.{is_label, is_no_label}
use Rattle.fab_answers.proofs.Saying.{flow_said, unknown_said}
use Rattle.fab_answers.proofs.bundles.flows_in.Goals as goal

pub flow_reply-requires-clause-principals : goal.flow_reply-requires-clause-principals
flow_reply-requires-clause-principals c = held c.args.start.now c.args.resolved.now (within c.requires.front.is) c.requires.right c.requires.is

pub flow_reply-requires-clause-from_owned : goal.flow_reply-requires-clause-from_owned
flow_reply-requires-clause-from_owned c =
    owners_of_found (λ x. bytes_eq x.name.text c.args.from.now) c.args.resolved.now c.in-Some.one.now
    (held c.args.start.now c.args.resolved.now (within c.requires.front.is) c.requires.right c.requires.is) (sym c.label.ensures ∙ ap option_copied c.in-Some.is)

pub flow_reply-requires-clause-to_owned : goal.flow_reply-requires-clause-to_owned
flow_reply-requires-clause-to_owned c =
    owners_of_found (λ x. bytes_eq x.name.text c.args.to.now) c.args.resolved.now c.in-Some-label.other.now
    (held c.args.start.now c.args.resolved.now (within c.requires.front.is) c.requires.right c.requires.is) (sym c.label-in-Some.ensures ∙ ap option_copied c.in-Some-label.is)

pub unknown-requires : goal.unknown-requires
unknown-requires c = short c.requires.front.is

pub returns-in-None : goal.returns-in-None
returns-in-None c =
    let from = c.args.from.now in
    let to = c.args.to.now in
    let none = is_no_label c.args.start.now c.args.resolved.now from c.requires.is (sym c.label.ensures ∙ ap option_copied c.in-None.is) in
    let n = length c.args.text.now in
    if_told (IsSaid (asks.Flows from to) c.args.text.now) (status.Name Unknown n) (name_line Unknown n) c.unknown.result c.unknown.ensures
    (unknown_said c.requires.front {command = asks.Flows from to} (inl none) c.requires.right)

pub returns-in-None-label : goal.returns-in-None-label
returns-in-None-label c =
    let from = c.args.from.now in
    let to = c.args.to.now in
    let none = is_no_label c.args.start.now c.args.resolved.now to c.requires.is (sym c.label-in-Some.ensures ∙ ap option_copied c.in-None-label.is) in
    let n = length c.args.text.now in
    if_told (IsSaid (asks.Flows from to) c.args.text.now) (status.Name Unknown n) (name_line Unknown n) c.unknown-in-None-label.result c.unknown-in-None-label.ensures
    (unknown_said c.requires.front {command = asks.Flows from to} (inr none) c.requires.right)

pub returns-in_ok-reply-in-Some-label : goal.returns-in_ok-reply-in-Some-label
returns-in_ok-reply-in-Some-label c =
    let from = c.args.from.now in
    let to = c.args.to.now in
    let one = c.in-Some.one.now in
    let other = c.in-Some-label.other.now in
    let p = is_label c.args.start.now c.args.resolved.now from one c.requires.is (sym c.label.ensures ∙ ap option_copied c.in-Some.is) in
    let q = is_label c.args.start.now c.args.resolved.now to other c.requires.is (sym c.label-in-Some.ensures ∙ ap option_copied c.in-Some-label.is) in
    flow_said c.requires.front from to c.requires.right p q (subst (λ r. IsFlowReply r one.label other.label c.in_ok-reply-in-Some-label.reply) c.requires.is c.in_ok-reply-in-Some-label.ensures)
