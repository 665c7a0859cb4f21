use Rattle.std.proofs.Common.{◌≡◌, ℕ, ◌||◌, drop}
use Rattle.std.specs.List.{list_any}
use Rattle.fab_base.specs.declared.object.Tid.{Tid}
use Rattle.fab_protocol.specs.Versions.{Row}
use Rattle.fab_record.specs.Kept.{at_store, changes, is_noted}
use Rattle.fab_record.specs.Views.{sight_in}
use Rattle.fab_record.proofs.changes.put_writes.Given as goal

abbrev pub invariant-loop-write : goal.invariant-loop-write
invariant-loop-write l =
    (s : ℕ) (t : Tid) → (is_noted (at_store t s) l.changed.keys || list_any (λ (w : Row). changes (sight_in l.sights) l.tid s t w.0) (drop l.write-index l.writes))
    ≡ (is_noted (at_store t s) l.initial.changed.keys || list_any (λ (w : Row). changes (sight_in l.sights) l.tid s t w.0) l.writes)
