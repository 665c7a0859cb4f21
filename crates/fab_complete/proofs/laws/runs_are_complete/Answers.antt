use Rattle.fab_complete.proofs.Complete.{is_complete}
use Rattle.fab_complete.proofs.laws.runs_are_complete.Goals as goal

pub returns : goal.returns
returns c = λ x left left' written written' h. is_complete x left left' written written' h
