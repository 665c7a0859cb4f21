use Rattle.fab_places.proofs.policies.readers.Goals as goal

pub returns : goal.returns
returns c = record { exact = λ p. rw c.as_slice.ensures at (c.all_within.ensures p) }
