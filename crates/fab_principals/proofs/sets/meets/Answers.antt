use Rattle.std.proofs.lemmas.Bool.{eqb-true, eqb-false, not-true, not-false}
use Rattle.fab_principals.proofs.SetLemmas.{meets-and}
use Rattle.fab_principals.proofs.sets.meets.Goals as goal

pub returns : goal.returns
returns c = meets-and c.args.a c.args.b c.ranges.a.fits _ (λ e. eqb-true _ _ (not-false _ e)) (λ e. eqb-false _ _ (not-true _ e))
