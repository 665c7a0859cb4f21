use Rattle.std.proofs.Common.{sym, subst}
use Rattle.std.specs.Map.{values_of}
use Rattle.fab_locks.specs.Conflicts.{AreDistinct}
use Rattle.fab_locks.proofs.Agreeing.{agrees_at_first}
use Rattle.fab_locks.proofs.indexed.Indexed.new.Goals as goal

pub invariant_of-result : goal.invariant_of-result
invariant_of-result c = record {
  ordered = c.new.ensures.ordered;
  distinct = subst (λ es. AreDistinct (values_of es)) (sym c.new.ensures.empty) tt;
  agrees = agrees_at_first c.new.result.entries c.new-2.result c.new.ensures.empty c.new-2.ensures.places c.new-2.ensures.named c.new-2.ensures.changed;
}
