use Rattle.std.proofs.Common.{◌↔◌, IsTrue, IsBitSet, arith}
use Rattle.std.proofs.lemmas.Bool.{eqb-true, eq-eqb}
use Rattle.std.proofs.lemmas.Nat.{bit_set_by_shift}
use Rattle.std.proofs.lemmas.Bool.Decides.{nat_tests}
use Rattle.fab_rights.proofs.Bits.{bit_below, same_truth, has_bit_exact}
use Rattle.fab_rights.proofs.masks.is_in.Goals as goal

pub returns-then-number-lt64 : goal.returns-then-number-lt64
returns-then-number-lt64 c =
    let by_shift = bit_set_by_shift c.args.mask c.args.number in
    let exact : IsTrue _ ↔ IsBitSet c.args.mask c.args.number = (λ t. by_shift.0 (eqb-true _ _ t), λ bit. eq-eqb _ _ (by_shift.1 bit)) in
    record { exact = exact; computed = same_truth _ _ exact (has_bit_exact c.args.mask c.args.number) }

pub returns-else-number-lt64-clause-exact : goal.returns-else-number-lt64-clause-exact
returns-else-number-lt64-clause-exact c =
    (λ t. absurd (grind (arith, nat_tests)), λ bit. let below = bit_below c.args.mask c.args.number c.ranges.mask.fits bit in absurd (omega arith))

pub returns-else-number-lt64-clause-computed : goal.returns-else-number-lt64-clause-computed
returns-else-number-lt64-clause-computed c =
    same_truth _ _ {P = IsBitSet c.args.mask c.args.number} (λ t. absurd (grind (arith, nat_tests)), λ bit. let below = bit_below c.args.mask c.args.number c.ranges.mask.fits bit in absurd (omega arith)) (has_bit_exact c.args.mask c.args.number)
