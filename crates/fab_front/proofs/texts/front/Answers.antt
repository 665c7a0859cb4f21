use Rattle.std.proofs.Common.{rules}
use Rattle.fab_front.proofs.Fronts.{one_of_long, one_of_uncut, uncut_by}
use Rattle.fab_front.proofs.texts.front.Goals as goal

pub returns-then-text-gt-BYTES : goal.returns-then-text-gt-BYTES
returns-then-text-gt-BYTES c = one_of_long (search rules)

pub returns-in-Err-Bad : goal.returns-in-Err-Bad
returns-in-Err-Bad c = rw c.in-Err-Bad.at-is (one_of_uncut (search rules) (uncut_by c.in-Err-Bad.field-0-is c.in-Err-Bad.ensures.refused))
