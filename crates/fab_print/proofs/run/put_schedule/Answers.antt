use Rattle.std.proofs.Common.{refl}
use Rattle.fab_base.specs.declared.token.Mark.TheVariants as m
use Rattle.fab_tree.specs.Print.{◌>>◌, space, line_end, mark, indent}
use Rattle.fab_print.proofs.Added.{both, word, events_within}
use Rattle.fab_print.proofs.run.put_schedule.Goals as goal

pub returns-in_ok-extend-in-Some-2 : goal.returns-in_ok-extend-in-Some-2
returns-in_ok-extend-in-Some-2 c = events_within _ _ _ c.in-Some.ensures.cases.0 (both (word _ (indent 1 >> mark m.Schedule >> space >> mark m.LeftBrace >> line_end) c.in_ok-extend-in-Some.ensures.ok (λ _. refl)) (both (c.in_ok-print_all-in-Some.ensures) (word _ (indent 1 >> mark m.RightBrace >> line_end) c.in_ok-extend-in-Some-2.ensures.ok (λ _. refl))))
