use Rattle.fab_nested.specs.Logs.{heap_of}
use Rattle.fab_nested.specs.Overlay.{rows_of}
use Rattle.fab_nested.proofs.Telling.{writes_told, creates_told}
use Rattle.fab_nested.proofs.frames.Frames.changed.Goals as goal

pub returns-clause-writes : goal.returns-clause-writes
returns-clause-writes c =
    writes_told c.self.inside.versions.entries (rows_of c.self.inside.known) c.self.inside.log.items (heap_of c.self.inside.objects) c.self.inside.marks.items c.self.inside.touches c.args.self.now c.self.view_is c.self.invariant
    c.rows-row-items.result.now c.loop-row.row-index c.rows-row-items.ensures.all c.loop-row-test.false c.loop-row.writes c.loop-row.invariant.writes

pub returns-clause-creates : goal.returns-clause-creates
returns-clause-creates c =
    creates_told c.self.inside.versions.entries (rows_of c.self.inside.known) c.self.inside.log.items (heap_of c.self.inside.objects) c.self.inside.marks.items c.self.inside.touches c.args.self.now c.self.view_is c.self.invariant
    c.rows-row-items.result.now c.loop-row.row-index c.rows-row-items.ensures.all c.loop-row-test.false c.loop-row.creates c.loop-row.invariant.creates
