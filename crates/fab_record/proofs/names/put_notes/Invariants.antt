use Rattle.std.proofs.Common.{drop, fold}
use Rattle.fab_release.specs.Record.{seen_behind}
use Rattle.fab_record.specs.Kept.{AreSame}
use Rattle.fab_record.specs.Views.{sight_in}
use Rattle.fab_record.proofs.names.put_notes.Given as goal

abbrev pub invariant-loop-note : goal.invariant-loop-note
invariant-loop-note l =
    AreSame (fold (seen_behind (sight_in l.sights)) l.names.keys (drop l.note-index l.notes)) (fold (seen_behind (sight_in l.sights)) l.initial.names.keys l.notes)
