use Rattle.fab_setup.proofs.Numbers.{has_numbers, has_owners}
use Rattle.fab_setup.proofs.setup.setup_of.Goals as goal

pub rights_of-requires-clause-principals : goal.rights_of-requires-clause-principals
rights_of-requires-clause-principals c =
    has_owners c.args.start.now c.in-Ok.resolved c.requires.within c.in-Ok.ensures.right c.in-Ok.ensures.resolved

pub rights_of-requires-clause-numbers : goal.rights_of-requires-clause-numbers
rights_of-requires-clause-numbers c = has_numbers c.args.start.now c.in-Ok.resolved c.requires.within c.in-Ok.ensures.resolved
