use Rattle.std.proofs.Common.{ap, ◌∙◌}
use Rattle.fab_infer.specs.Masks.{fits_row}
use Rattle.fab_infer.proofs.least.fits.Goals as goal

pub returns-in-Some : goal.returns-in-Some
returns-in-Some c = c.is_within.ensures.computed ∙ ap (fits_row c.args.below) c.in-Some.ensures

pub returns-in-None : goal.returns-in-None
returns-in-None c = ap (fits_row c.args.below) c.in-None.ensures
