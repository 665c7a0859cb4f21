use Rattle.std.proofs.Common.{◌≡◌, length, map}
use Rattle.fab_labelling.specs.Obligations.{root_owes}
use Rattle.fab_check.specs.Noted.{all_noted}
use Rattle.fab_check.proofs.methods.note_roots.Given as goal

abbrev pub invariant-roots : goal.invariant-roots
invariant-roots l = all_noted l.verdicts (map root_owes l.rest) ≡ all_noted l.initial.verdicts (map root_owes l.roots)

abbrev pub decreases-roots : goal.decreases-roots
decreases-roots l = length l.rest
