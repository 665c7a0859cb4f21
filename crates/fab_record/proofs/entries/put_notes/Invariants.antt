use Rattle.std.proofs.Common.{◌≡◌, drop}
use Rattle.std.specs.List.{flat_map}
use Rattle.fab_record.specs.Places.{of_note, told}
use Rattle.fab_record.proofs.entries.put_notes.Given as goal

abbrev pub invariant-loop-note : goal.invariant-loop-note
invariant-loop-note l = told l.place.quiet l.out (flat_map (of_note l.place) (drop l.note-index l.notes)) ≡ told l.place.quiet l.initial.out (flat_map (of_note l.place) l.notes)
