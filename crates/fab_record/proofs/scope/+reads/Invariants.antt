use Rattle.std.proofs.Common.{◌≡◌, drop}
use Rattle.std.specs.List.{list_all}
use Rattle.fab_tree.specs.declared.resolved.Operand.{Operand, out-Operand}
use Rattle.fab_record.specs.Scopes.{reads_seen}
use Rattle.fab_record.proofs.scope.+reads.Given as goal

abbrev pub invariant-operands_seen-loop-other : goal.invariant-operands_seen-loop-other
invariant-operands_seen-loop-other l =
    list_all (λ (u : Operand). reads_seen l.scope (out-Operand u).operand) (drop l.other-index l.others) ≡ list_all (λ (u : Operand). reads_seen l.scope (out-Operand u).operand) l.others
