use Rattle.std.proofs.Common.{◌≡◌, ℕ, ◌||◌, drop}
use Rattle.std.specs.List.{list_any}
use Rattle.fab_base.specs.declared.object.Object.{Object}
use Rattle.fab_base.specs.declared.object.Oid.{Oid}
use Rattle.fab_base.specs.declared.object.Tid.{Tid}
use Rattle.fab_record.specs.Kept.{at_store, changes, is_noted}
use Rattle.fab_record.specs.Views.{sight_in}
use Rattle.fab_record.proofs.changes.put_creates.Given as goal

abbrev pub invariant-loop-create : goal.invariant-loop-create
invariant-loop-create l =
    (s : ℕ) (t : Tid) → (is_noted (at_store t s) l.changed.keys || list_any (λ (c : Oid × Object). changes (sight_in l.sights) l.tid s t c.0) (drop l.create-index l.creates))
    ≡ (is_noted (at_store t s) l.initial.changed.keys || list_any (λ (c : Oid × Object). changes (sight_in l.sights) l.tid s t c.0) l.creates)
