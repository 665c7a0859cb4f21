use Rattle.fab_pauses.proofs.Adding.{behind, not_behind}
use Rattle.fab_pauses.proofs.going.answer_behind.Goals as goal

pub returns-then-are_same_answers : goal.returns-then-are_same_answers
returns-then-are_same_answers c =
    behind c.args.before.now c.args.answers.now c.in-Some.front.now c.in-Some.last.now c.in-Some.ensures.cases.0 c.if-are_same_answers.ensures

pub returns-else-are_same_answers : goal.returns-else-are_same_answers
returns-else-are_same_answers c =
    not_behind c.args.before.now c.args.answers.now c.in-Some.front.now c.in-Some.last.now c.in-Some.ensures.cases.0 c.if-are_same_answers.ensures
