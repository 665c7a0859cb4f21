use Rattle.std.proofs.Common.{◌≡◌, length, None}
use Rattle.fab_labelling.specs.Obligations.{all_fail}
use Rattle.fab_check.specs.Noted.{all_noted}
use Rattle.fab_check.proofs.notes.note_nowhere.Given as goal

abbrev pub invariant-labels : goal.invariant-labels
invariant-labels l = all_noted l.verdicts (all_fail l.at l.rest None) ≡ all_noted l.initial.verdicts (all_fail l.at l.from None)

abbrev pub decreases-labels : goal.decreases-labels
decreases-labels l = length l.rest
