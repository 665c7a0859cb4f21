use Rattle.fab_places.proofs.policies.is_reader.Goals as goal

pub returns : goal.returns
returns c = rw c.as_slice.ensures at c.is_within_all.ensures
