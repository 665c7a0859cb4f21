use Rattle.std.proofs.Common.{subst}
use Rattle.std.specs.List.{AllByRecursion}
use Rattle.fab_base.specs.FieldSpelling.{KeepsItems}
use Rattle.fab_base.proofs.Lists.{all_filter}
use Rattle.fab_protocol.specs.Stores.{Prepared}
use Rattle.fab_protocol.specs.Versions.{is_tid}
use Rattle.fab_store.proofs.changes.apply.Goals as goal

-- what is freed was held
pub put_left-requires-clause-counts : goal.put_left-requires-clause-counts
put_left-requires-clause-counts c =
    (subst (λ ps. AllByRecursion (λ (p : Prepared). KeepsItems p.1) ps) c.in-Some.ensures.items
    (all_filter (λ (p : Prepared). KeepsItems p.1) (λ p. is_tid p.0 c.args.tid) c.args.locks.now.held c.requires.counts)).0
