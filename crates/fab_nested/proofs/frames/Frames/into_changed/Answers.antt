use Rattle.std.proofs.Common.{◌∙◌}
use Rattle.fab_nested.specs.Logs.{heap_of}
use Rattle.fab_nested.specs.Overlay.{rows_of}
use Rattle.fab_nested.proofs.Telling.{changed_told}
use Rattle.fab_nested.proofs.frames.Frames.into_changed.Goals as goal

pub returns : goal.returns
returns c =
    changed_told c.self.inside.versions.entries (rows_of c.self.inside.known) c.self.inside.log.items (heap_of c.self.inside.objects) c.self.inside.marks.items c.self.inside.touches c.args.self c.self.view_is c.self.invariant
    c.from_vec.result (c.from_vec.ensures ∙ c.into_rows.ensures)
