use Rattle.std.proofs.Common.{◌≡◌, length}
use Rattle.fab_labelling.specs.Obligations.{all_flow}
use Rattle.fab_check.specs.Noted.{all_noted}
use Rattle.fab_check.proofs.notes.note_flows.Given as goal

abbrev pub invariant-labels : goal.invariant-labels
invariant-labels l = all_noted l.verdicts (all_flow l.rule l.at l.rest l.to) ≡ all_noted l.initial.verdicts (all_flow l.rule l.at l.from l.to)

abbrev pub decreases-labels : goal.decreases-labels
decreases-labels l = length l.rest
