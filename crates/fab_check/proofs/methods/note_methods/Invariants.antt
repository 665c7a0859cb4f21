use Rattle.std.proofs.Common.{◌≡◌, drop}
use Rattle.std.specs.List.{flat_map}
use Rattle.fab_labelling.specs.Obligations.{method_owes}
use Rattle.fab_check.specs.Noted.{all_noted}
use Rattle.fab_check.proofs.methods.note_methods.Given as goal

abbrev pub invariant-loop-method : goal.invariant-loop-method
invariant-loop-method l = all_noted l.verdicts (flat_map (method_owes l.start.classes l.start.methods) (drop l.method-index l.method-items)) ≡ all_noted l.initial.verdicts (flat_map (method_owes l.start.classes l.start.methods) l.method-items)
