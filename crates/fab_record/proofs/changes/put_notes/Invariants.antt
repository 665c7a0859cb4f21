use Rattle.std.proofs.Common.{◌≡◌, ℕ, ◌||◌, drop}
use Rattle.std.specs.List.{flat_map, list_any}
use Rattle.fab_base.specs.declared.object.Tid.{Tid}
use Rattle.fab_release.specs.Record.{changes_in}
use Rattle.fab_record.specs.Kept.{at_store, is_noted, is_shown_at}
use Rattle.fab_record.specs.Views.{sight_in}
use Rattle.fab_record.proofs.changes.put_notes.Given as goal

abbrev pub invariant-loop-note : goal.invariant-loop-note
invariant-loop-note l =
    (s : ℕ) (t : Tid) → (is_noted (at_store t s) l.changed.keys || list_any (is_shown_at (sight_in l.sights) s) (flat_map (changes_in t) (drop l.note-index l.notes)))
    ≡ (is_noted (at_store t s) l.initial.changed.keys || list_any (is_shown_at (sight_in l.sights) s) (flat_map (changes_in t) l.notes))
