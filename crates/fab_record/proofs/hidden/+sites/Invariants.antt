use Rattle.std.proofs.Common.{◌≡◌, ◌++◌, drop}
use Rattle.std.specs.List.{flat_map}
use Rattle.fab_tree.specs.declared.resolved.Operand.{Operand, out-Operand}
use Rattle.fab_labelling.specs.Sites.{sites_in}
use Rattle.fab_record.proofs.hidden.+sites.Given as goal

abbrev pub invariant-put_operands-loop-other : goal.invariant-put_operands-loop-other
invariant-put_operands-loop-other l =
    l.out ++ flat_map (λ (u : Operand). sites_in (out-Operand u).operand) (drop l.other-index l.others) ≡ l.initial.out ++ flat_map (λ (u : Operand). sites_in (out-Operand u).operand) l.others
