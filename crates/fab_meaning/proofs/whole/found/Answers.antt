use Rattle.std.proofs.Common.{IfOk, subst, sym}
use Rattle.fab_language.specs.Meaning as m
use Rattle.fab_meaning.specs.Ends.{IsMeant}
use Rattle.fab_meaning.proofs.whole.found.Goals as goal

pub returns : goal.returns
returns c = subst (λ (x : m.Meant). IfOk c.over.result (λ f. IsMeant f x)) (sym c.in_ok-ended.ensures) c.over.ensures
