use Rattle.std.proofs.Common.{arith}
use Rattle.fab_record.specs.Places.{of_note}
use Rattle.fab_record.proofs.Telling.{end, step}
use Rattle.fab_record.proofs.entries.put_notes.Goals as goal

pub loop-note-preserved : goal.loop-note-preserved
loop-note-preserved c =
    let p = c.args.place.now in
    step p.quiet (of_note p) c.loop-note.out c.put_note.new.out _ c.args.notes.now c.loop-note.note-index c.note-item.result
    c.loop-note-test.true c.note-item.is c.in_ok-put_note.ensures c.loop-note.invariant

pub returns : goal.returns
returns c =
    let p = c.args.place.now in
    end p.quiet (of_note p) c.loop-note.out _ c.args.notes.now c.loop-note.note-index (omega arith) c.loop-note.invariant
