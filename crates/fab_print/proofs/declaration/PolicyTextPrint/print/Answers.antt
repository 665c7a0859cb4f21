use Rattle.std.proofs.Common.{refl}
use Rattle.fab_tree.specs.Print.{space}
use Rattle.fab_print.proofs.Added.{both, word, said}
use Rattle.fab_print.proofs.declaration.PolicyTextPrint.print.Goals as goal

pub returns : goal.returns
returns c = both (c.in_ok-put_name.ensures) (both (word _ (space) c.in_ok-push.ensures.ok (λ _. refl)) (both (said _ c.aspect_text.ensures c.as_bytes.ensures.value c.in_ok-extend.ensures.ok) (rw c.as_slice.ensures at c.in_ok-put_spaced_names.ensures)))
