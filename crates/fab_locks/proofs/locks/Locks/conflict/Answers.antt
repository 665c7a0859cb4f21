use Rattle.std.proofs.Common.{ap, ◌∙◌}
use Rattle.fab_locks.specs.Conflicts.{first_barring}
use Rattle.fab_locks.proofs.Joining.{barring_behind, barring_first}
use Rattle.fab_locks.proofs.locks.Locks.conflict.Goals as goal

pub returns-in-Some : goal.returns-in-Some
returns-in-Some c =
    barring_first c.args.oid c.args.writing c.self.inside.indexed c.self.inside.beside.items c.in-Some.tid c.in-Some.ensures
    ∙ ap (λ h. first_barring c.args.oid c.args.writing h.held) c.self.view_is

pub returns-in-None : goal.returns-in-None
returns-in-None c =
    barring_behind c.args.oid c.args.writing c.self.inside.indexed c.self.inside.beside.items c.first_barring.result c.in-None.ensures
    (c.first_barring.ensures ∙ ap (first_barring c.args.oid c.args.writing) c.as_slice.ensures.value)
    ∙ ap (λ h. first_barring c.args.oid c.args.writing h.held) c.self.view_is
