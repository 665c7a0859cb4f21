use Rattle.std.proofs.lemmas.Nat.{le_or_l}
use Rattle.fab_principals.proofs.SetLemmas.{in_set-or}
use Rattle.fab_authority.proofs.sets.union.Goals as goal

pub returns : goal.returns
returns c = record { either = in_set-or c.args.a c.args.b; larger = le_or_l c.args.a c.args.b }
