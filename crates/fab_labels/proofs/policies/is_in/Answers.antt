use Rattle.std.proofs.lemmas.Bool.{eqb-true, eq-eqb}
use Rattle.std.proofs.lemmas.Nat.{bit_set_by_shift}
use Rattle.fab_labels.proofs.policies.is_in.Goals as goal

pub returns : goal.returns
returns c = let by_shift = bit_set_by_shift c.args.set c.args.o in (λ t. by_shift.0 (eqb-true _ _ t), λ bit. eq-eqb _ _ (by_shift.1 bit))
