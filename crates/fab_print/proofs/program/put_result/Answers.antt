use Rattle.std.proofs.Common.{refl, ap}
use Rattle.fab_base.specs.declared.token.Mark.TheVariants as m
use Rattle.fab_tree.specs.Print as p
use Rattle.fab_tree.specs.Print.{◌>>◌, space, line_end, mark, indent}
use Rattle.fab_print.proofs.Added.{both, word, known}
use Rattle.fab_print.proofs.program.put_result.Goals as goal

pub returns-in_ok-extend-in-Some-2 : goal.returns-in_ok-extend-in-Some-2
returns-in_ok-extend-in-Some-2 c = known (ap p.result c.in-Some.is) (both (word _ (indent 1 >> mark m.Return >> space) c.in_ok-extend-in-Some.ensures.ok (λ _. refl)) (both (c.in_ok-put_expression-in-Some.ensures) (word _ (mark m.Semicolon >> line_end) c.in_ok-extend-in-Some-2.ensures.ok (λ _. refl))))
