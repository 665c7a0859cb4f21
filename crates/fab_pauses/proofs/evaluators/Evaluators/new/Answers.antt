use Rattle.std.proofs.Common.{sym, subst}
use Rattle.fab_pauses.specs.Evaluations.{AreOf}
use Rattle.fab_pauses.proofs.Places.{all_new, none_last}
use Rattle.fab_pauses.proofs.evaluators.Evaluators.new.Goals as goal

pub invariant_of-result : goal.invariant_of-result
invariant_of-result c = subst (AreOf c.args.program.now) (sym c.in_ok-all.ensures) (all_new c.args.program.now)

pub returns-clause-none : goal.returns-clause-none
returns-clause-none c = none_last c.args.program.now c.in_ok-all.all.items c.in_ok-all.ensures
