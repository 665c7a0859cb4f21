use Rattle.std.proofs.Common.{◌≡◌, drop}
use Rattle.fab_check.specs.Noted.{all_noted}
use Rattle.fab_check.specs.Shown.{all_given}
use Rattle.fab_check.proofs.calls.note_all_given.Given as goal

abbrev pub invariant-loop-value : goal.invariant-loop-value
invariant-loop-value l = all_noted l.verdicts (all_given l.names l.under (drop l.value-index l.values) l.to) ≡ all_noted l.initial.verdicts (all_given l.names l.under l.values l.initial.to)
