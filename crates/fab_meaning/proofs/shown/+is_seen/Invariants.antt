use Rattle.std.proofs.Common.{◌≡◌, drop}
use Rattle.std.specs.List.{list_all}
use Rattle.fab_tree.specs.declared.expression.Operator.{Operator}
use Rattle.fab_erasure.specs.Erased.{Part}
use Rattle.fab_meaning.specs.Settings.{others_of}
use Rattle.fab_meaning.proofs.shown.+is_seen.Given as goal

abbrev pub invariant-are_seen-loop-other : goal.invariant-are_seen-loop-other
invariant-are_seen-loop-other l =
    list_all (λ (u : Operator × Part). u.1.seen) (others_of l.setting l.method (drop l.other-index l.others)) ≡ list_all (λ (u : Operator × Part). u.1.seen) (others_of l.setting l.method l.others)
