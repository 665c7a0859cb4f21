use Rattle.std.proofs.Common.{◌++◌, ap, ◌∙◌, fold}
use Rattle.std.specs.List.{flat_map}
use Rattle.fab_language.specs.Unknown as rule
use Rattle.fab_rules.specs.First.{first_from}
use Rattle.fab_faults.proofs.Parts.{begun, behind}
use Rattle.fab_faults.proofs.bundle.unknown_before.Goals as goal

pub returns : goal.returns
returns c =
    let s = c.args.tables.now in
    let x = c.args.start.now in
    let part1 =
    begun (rule.in_delegation s) x.program.delegations c.args.first c.unknown_in_delegations-first.result
    (c.unknown_in_delegations-first.ensures ∙ ap (fold (λ a y. first_from a (rule.in_delegation s y)) c.args.first) c.as_slice.ensures) in
    let front1 = flat_map (rule.in_delegation s) x.program.delegations in
    let part2 =
    behind (rule.in_label_text s) x.program.labels c.args.first c.unknown_in_delegations-first.result c.unknown_in_labels-first.result front1
    (c.unknown_in_labels-first.ensures ∙ ap (fold (λ a y. first_from a (rule.in_label_text s y)) c.unknown_in_delegations-first.result) c.as_slice-2.ensures) part1 in
    let front2 = front1 ++ flat_map (rule.in_label_text s) x.program.labels in
    behind (rule.in_class s) x.program.classes c.args.first c.unknown_in_labels-first.result c.unknown_in_classes.result front2
    (c.unknown_in_classes.ensures ∙ ap (fold (λ a y. first_from a (rule.in_class s y)) c.unknown_in_labels-first.result) c.as_slice-3.ensures) part2
