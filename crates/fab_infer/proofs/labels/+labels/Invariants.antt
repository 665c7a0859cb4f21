use Rattle.std.proofs.Common.{◌≡◌, ◌++◌, drop}
use Rattle.std.specs.List.{flat_map}
use Rattle.fab_tree.specs.declared.resolved.Operand.{Operand, out-Operand}
use Rattle.fab_infer.specs.Shown.{labels_of}
use Rattle.fab_infer.proofs.labels.+labels.Given as goal

abbrev pub invariant-put_operands-loop-other : goal.invariant-put_operands-loop-other
invariant-put_operands-loop-other l =
    l.out ++ flat_map (λ (u : Operand). labels_of l.names (out-Operand u).operand) (drop l.other-index l.others) ≡ l.initial.out ++ flat_map (λ (u : Operand). labels_of l.names (out-Operand u).operand) l.others
