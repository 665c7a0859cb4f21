use Rattle.fab_principals.proofs.SetLemmas.{in_set-shifted}
use Rattle.fab_authority.proofs.sets.contains.Goals as goal

pub returns : goal.returns
returns c = in_set-shifted c.args.set c.args.k
