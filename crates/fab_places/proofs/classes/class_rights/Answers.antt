use Rattle.std.proofs.Common.{subst}
use Rattle.fab_base.specs.Principals.{Delegations}
use Rattle.fab_places.proofs.RightsLemmas.{Reading, Influencing, class_rights_are}
use Rattle.fab_places.proofs.classes.class_rights.Goals as goal

pub returns : goal.returns
returns c =
    let r = c.args.start.now in
    let class = c.args.class.now in
    class_rights_are r class c.requires.numbers c.workers.result c.stores.result c.reading-readers.result c.reading-learners.result c.influencing-writers.result c.workers.ensures c.stores.ensures
    (subst (λ (d : Delegations). Reading r d class.label.number c.reading-readers.result) c.requires.of c.reading-readers.ensures)
    (subst (λ (d : Delegations). Reading r d class.access.number c.reading-learners.result) c.requires.of c.reading-learners.ensures)
    (subst (λ (d : Delegations). Influencing r d class.label.number c.influencing-writers.result) c.requires.of c.influencing-writers.ensures)
    c.in_ok-shapes_of.field-0 (rw c.as_slice.ensures at (c.in_ok-shapes_of.ensures))
