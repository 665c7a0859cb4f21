use Rattle.std.proofs.Common.{◌≡◌, drop}
use Rattle.std.specs.List.{flat_map}
use Rattle.fab_check.specs.Noted.{all_noted}
use Rattle.fab_check.proofs.Forms.{tail_owed}
use Rattle.fab_check.proofs.expressions.+expression.Given as goal

abbrev pub invariant-note_operands-loop-other : goal.invariant-note_operands-loop-other
invariant-note_operands-loop-other l =
    all_noted l.verdicts (flat_map (tail_owed l.names l.under) (drop l.other-index l.others)) ≡ all_noted l.initial.verdicts (flat_map (tail_owed l.names l.under) l.others)
