use Rattle.std.proofs.Common.{ℕ, ◌++◌, drop, map}
use Rattle.std.specs.List.{filter}
use Rattle.fab_base.specs.declared.object.Oid.{Oid}
use Rattle.fab_release.specs.Record.{is_in_view}
use Rattle.fab_record.specs.Kept.{AreSame}
use Rattle.fab_record.specs.Views.{sight_in}
use Rattle.fab_record.proofs.names.put_touches.Given as goal

abbrev pub invariant-loop-touch : goal.invariant-loop-touch
invariant-loop-touch l =
    AreSame (l.names.keys ++ map (λ (x : ℕ × Oid × ℕ). x.1) (filter (is_in_view (sight_in l.sights)) (drop l.touch-index l.touches)))
    (l.initial.names.keys ++ map (λ (x : ℕ × Oid × ℕ). x.1) (filter (is_in_view (sight_in l.sights)) l.touches))
