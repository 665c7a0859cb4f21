use Rattle.std.proofs.Common.{arith}
use Rattle.fab_record.specs.Views.{sight_in}
use Rattle.fab_record.proofs.Naming.{note_end, note_step}
use Rattle.fab_record.proofs.names.put_notes.Goals as goal

pub loop-note-preserved : goal.loop-note-preserved
loop-note-preserved c =
    note_step (sight_in c.args.sights.now) c.loop-note.names.keys c.put_note.new.names.keys _ c.args.notes.now c.loop-note.note-index c.note-item.result
    c.loop-note-test.true c.note-item.is c.in_ok-put_note.ensures c.loop-note.invariant

pub returns : goal.returns
returns c = note_end (sight_in c.args.sights.now) c.loop-note.names.keys _ c.args.notes.now c.loop-note.note-index (omega arith) c.loop-note.invariant
