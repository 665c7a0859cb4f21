use Rattle.fab_laws.proofs.Changes.{leaves}
use Rattle.fab_laws.proofs.laws.only_changed_names_change.Goals as goal

pub returns : goal.returns
returns c = λ program known request tid fuel. (leaves known program tid request fuel).changes
