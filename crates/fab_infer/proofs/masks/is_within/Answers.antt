use Rattle.std.proofs.Common.{refl}
use Rattle.std.proofs.lemmas.Bool.{eqb-true, eq-eqb}
use Rattle.fab_infer.proofs.Subsets.{same_part}
use Rattle.fab_infer.proofs.masks.is_within.Goals as goal

pub returns : goal.returns
returns c = let t = same_part c.args.a c.args.b in record { exact = (λ is. t.0 (eqb-true _ _ is), λ h. eq-eqb _ _ (t.1 h)); computed = refl }
