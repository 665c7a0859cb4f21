use Rattle.std.proofs.Common.{arith}
use Rattle.std.proofs.lemmas.Bool.Decides.{nat_tests}
use Rattle.fab_labelling.specs.Readers.{principal_of}
use Rattle.fab_rights.proofs.Bits.{bit_below}
use Rattle.fab_places.proofs.nodes.is_among.Goals as goal

pub returns-else-place-lt64 : goal.returns-else-place-lt64
returns-else-place-lt64 c = (
  λ t. absurd (grind (arith, nat_tests)),
  λ bit. let below = bit_below c.args.principals (principal_of c.args.start.now c.args.number) c.ranges.principals.fits bit in absurd (omega (arith, below, c.principal_of-place.ensures.place)),
)
