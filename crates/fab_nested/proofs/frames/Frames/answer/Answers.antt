use Rattle.fab_nested.specs.Logs.{heap_of}
use Rattle.fab_nested.specs.Overlay.{rows_of}
use Rattle.std.proofs.Common.{sym, ◌∙◌}
use Rattle.fab_nested.proofs.Naming.{inserted}
use Rattle.fab_nested.proofs.Answering.{answered_framed, answered_is}
use Rattle.fab_nested.proofs.frames.Frames.answer.Goals as goal

pub invariant_of-self-2 : goal.invariant_of-self-2
invariant_of-self-2 c =
    answered_framed c.args.oid c.args.version c.args.object c.self.inside.versions.entries c.reserve.new.self.entries c.insert.new.self.entries (rows_of c.self.inside.known) (rows_of c.put.new.self)
    c.self.inside.log.items (heap_of c.self.inside.objects) c.self.inside.marks.items c.self.inside.touches c.args.self.now c.self.view_is c.self.invariant c.requires.absent
    c.reserve.ensures.entries (inserted c.insert.result _ _ (sym c.is_err.ensures.value ∙ c.if-is_err.false) c.insert.ensures.entries) c.in_ok-put.ensures.ok

pub returns-clause-ok : goal.returns-clause-ok
returns-clause-ok c =
    answered_is c.args.oid c.args.version c.args.object c.self.inside.versions.entries c.reserve.new.self.entries c.insert.new.self.entries (rows_of c.self.inside.known) (rows_of c.put.new.self)
    c.self.inside.log.items (heap_of c.self.inside.objects) c.self.inside.marks.items c.self.inside.touches c.args.self.now c.self.view_is c.self.invariant c.requires.absent
    c.reserve.ensures.entries (inserted c.insert.result _ _ (sym c.is_err.ensures.value ∙ c.if-is_err.false) c.insert.ensures.entries) c.in_ok-put.ensures.ok
