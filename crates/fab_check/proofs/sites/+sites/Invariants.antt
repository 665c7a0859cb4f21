use Rattle.std.proofs.Common.{◌≡◌, drop}
use Rattle.std.specs.List.{flat_map}
use Rattle.fab_tree.specs.declared.resolved.Operand.{Operand, out-Operand}
use Rattle.fab_labelling.specs.Sites.{sites_in}
use Rattle.fab_check.specs.Sited.{with_sites}
use Rattle.fab_check.proofs.sites.+sites.Given as goal

abbrev pub invariant-put_operands-loop-other : goal.invariant-put_operands-loop-other
invariant-put_operands-loop-other l =
    with_sites l.out l.pc (flat_map (λ (u : Operand). sites_in (out-Operand u).operand) (drop l.other-index l.others)) ≡ with_sites l.initial.out l.pc (flat_map (λ (u : Operand). sites_in (out-Operand u).operand) l.others)
