use Rattle.std.proofs.Common.{Err, sym, ap, ◌∙◌, subst}
use Rattle.fab_tree.specs.Print.{canonical}
use Rattle.fab_tree.specs.declared.resolved.Resolved.{Resolved}
use Rattle.fab_labelling.specs.declared.rule.Refusal.{Refusal}
use Rattle.fab_language.specs.Numbers.{resolved}
use Rattle.fab_holes.specs.Holes.{filled}
use Rattle.fab_front.specs.Lines.{label_line, no_least_line}
use Rattle.fab_front.specs.declared.status.Status.TheVariants as status
use Rattle.fab_front.proofs.Accepting.{if_told, within}
use Rattle.fab_inferred.specs.Infers.{IsInferred}
use Rattle.fab_inferred.proofs.Inferring.{HasOneAnswer, least_inferred, refused_inferred, solved_inferred}
use Rattle.fab_inferred.proofs.reply.least.Goals as goal

pub returns-in-Ok : goal.returns-in-Ok
returns-in-Ok c =
    let law = c.one_answer.ensures in
    let one : HasOneAnswer = record {
      choice = law.choice;
      place = law.place;
      reason = law.reason;
      solved_or_least = law.solved_or_least;
      solved_or_refused = law.solved_or_refused;
      least_or_refused = law.least_or_refused;
    } in
    let solved = c.in-Ok.ensures.solved c.args.start c.requires.right c.requires.numbers in
    let named = c.filled_bundles_keep_the_rules_of_names.ensures.names c.args.start c.in-Ok.choice c.requires.right solved.is_choice in
    subst (IsInferred c.args.text.now status.Ok)
    (sym (c.in_ok-reply-in-Ok.ensures ∙ ap canonical (c.in_ok-filled-in-Ok.ensures ∙ ap (filled c.args.start) c.as_slice.ensures)))
    (solved_inferred c.requires.front one c.requires.right named solved)

pub returns-in-Err-NoLeast : goal.returns-in-Err-NoLeast
returns-in-Err-NoLeast c =
    let law = c.one_answer.ensures in
    let one : HasOneAnswer = record {
      choice = law.choice;
      place = law.place;
      reason = law.reason;
      solved_or_least = law.solved_or_least;
      solved_or_refused = law.solved_or_refused;
      least_or_refused = law.least_or_refused;
    } in
    let x = c.in-Err-NoLeast in
    let h = c.infer.ensures.without c.args.start x.at c.requires.right c.requires.numbers (x.is ∙ ap Err x.field-0-is) in
    if_told (IsInferred c.args.text.now) (status.NoLeast x.at) (no_least_line x.at) c.no_least.result c.no_least.ensures (least_inferred c.requires.front one c.requires.right h)

pub numbers-requires : goal.numbers-requires
numbers-requires c = within c.requires.front.is

pub returns-in-Err-NoSolution : goal.returns-in-Err-NoSolution
returns-in-Err-NoSolution c =
    let law = c.one_answer.ensures in
    let one : HasOneAnswer = record {
      choice = law.choice;
      place = law.place;
      reason = law.reason;
      solved_or_least = law.solved_or_least;
      solved_or_refused = law.solved_or_refused;
      least_or_refused = law.least_or_refused;
    } in
    let x = c.in-Err-NoSolution in
    let h = c.infer.ensures.refused c.args.start x.rule x.at x.source x.target c.requires.right c.requires.numbers (x.is ∙ ap Err x.field-0-is) in
    let refusal : Refusal = record { rule = x.rule; at = x.at; source = x.source; target = x.target } in
    if_told (IsInferred c.args.text.now) (status.Label x.rule x.at x.source x.target) (label_line (resolved c.args.start) refusal) c.mislabelled.result
    (rw c.in_ok-resolved-in-Err-NoSolution.ensures at c.mislabelled.ensures)
    (refused_inferred c.requires.front one c.requires.right h)
