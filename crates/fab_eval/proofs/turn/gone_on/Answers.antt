use Rattle.std.proofs.Common.{◌≡◌, false, subst, sym}
use Rattle.std.specs.List.{list_any}
use Rattle.fab_nested.specs.Nested.{Answers}
use Rattle.fab_stack.specs.Attempts.{is_made_in}
use Rattle.fab_eval.specs.Turns.{Turns}
use Rattle.fab_eval.proofs.Going.{where_ok}
use Rattle.fab_eval.proofs.turn.gone_on.Goals as goal

pub turned-requires-clause-made_before : goal.turned-requires-clause-made_before
turned-requires-clause-made_before c =
    let pushed = where_ok c.push.result _ (sym c.if-is_err.ensures.value) c.push.ensures.ok in
    subst (λ (l : Answers). list_any (λ a. is_made_in c.args.job.tid a.0) l ≡ false) (sym pushed) c.requires.made_before

pub returns-in-Ok-with_answer-clause-turn : goal.returns-in-Ok-with_answer-clause-turn
returns-in-Ok-with_answer-clause-turn c =
    let pushed = where_ok c.push.result _ (sym c.if-is_err.ensures.value) c.push.ensures.ok in
    subst (λ (l : Answers). Turns (record c.args.job { answers = l }) c.turned.result) pushed c.turned.ensures
