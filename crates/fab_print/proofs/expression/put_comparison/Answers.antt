use Rattle.std.proofs.Common.{refl}
use Rattle.fab_tree.specs.Print.{space}
use Rattle.fab_print.proofs.Added.{both, word, said}
use Rattle.fab_print.proofs.expression.put_comparison.Goals as goal

pub returns : goal.returns
returns c = both (word _ (space) c.in_ok-push.ensures.ok (λ _. refl)) (both (said _ c.comparison_text.ensures c.as_bytes.ensures.value c.in_ok-extend.ensures.ok) (word _ (space) c.in_ok-push-2.ensures.ok (λ _. refl)))
