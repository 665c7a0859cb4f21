use Rattle.std.proofs.Common.{◌++◌, sym, ap, ◌∙◌}
use Rattle.fab_protocol.specs.Stores.{prepared_as, without}
use Rattle.fab_locks.proofs.Joining.{distinct_behind, distinct_left, freed_along, freed_behind, freed_first, left_first, without_either}
use Rattle.fab_locks.proofs.locks.Locks.free_settled.Goals as goal

-- it is among the indexed ones
pub invariant_of-self : goal.invariant_of-self
invariant_of-self c =
    let xs = c.self.inside.indexed in
    let ys = c.self.inside.beside.items in
    distinct_left c.args.tid (xs ++ ys) (c.free.new.self ++ ys) c.self.invariant
    (ap (λ l. l ++ ys) c.free.ensures.held ∙ left_first c.args.tid xs ys (c.args.tid, c.in-Some.items) c.self.invariant c.in-Some.ensures.items)

pub returns-in-Some-clause-items : goal.returns-in-Some-clause-items
returns-in-Some-clause-items c =
    ap (λ h. prepared_as c.args.tid h.held) (sym c.self.view_is)
    ∙ freed_first c.args.tid c.self.inside.indexed c.self.inside.beside.items (c.args.tid, c.in-Some.items) c.self.invariant c.in-Some.ensures.items

pub returns-in-Some-clause-held : goal.returns-in-Some-clause-held
returns-in-Some-clause-held c =
    let xs = c.self.inside.indexed in
    let ys = c.self.inside.beside.items in
    ap (λ l. l ++ ys) c.free.ensures.held
    ∙ left_first c.args.tid xs ys (c.args.tid, c.in-Some.items) c.self.invariant c.in-Some.ensures.items
    ∙ ap (λ h. without c.args.tid h.held) c.self.view_is

-- or beside them
pub free_beside-requires : goal.free_beside-requires
free_beside-requires c = record { distinct = distinct_behind c.self.inside.indexed c.self.inside.beside.items c.self.invariant }

pub invariant_of-self-in-None : goal.invariant_of-self-in-None
invariant_of-self-in-None c =
    let xs = c.self.inside.indexed in
    let ys = c.self.inside.beside.items in
    distinct_left c.args.tid (xs ++ ys) (c.free.new.self ++ c.free_beside.new.held.items) c.self.invariant
    ((λ i. c.free.ensures.held i ++ c.free_beside.ensures.held i) ∙ without_either c.args.tid xs ys)

pub returns-in-None-clause-items : goal.returns-in-None-clause-items
returns-in-None-clause-items c =
    let xs = c.self.inside.indexed in
    let ys = c.self.inside.beside.items in
    freed_along c.args.tid (xs ++ ys) c.args.self.now.held (ap (λ h. h.held) c.self.view_is) c.free_beside.result
    (freed_behind c.args.tid xs ys c.free_beside.result c.in-None.ensures.items c.free_beside.ensures.items)

pub returns-in-None-clause-held : goal.returns-in-None-clause-held
returns-in-None-clause-held c =
    (λ i. c.free.ensures.held i ++ c.free_beside.ensures.held i)
    ∙ without_either c.args.tid c.self.inside.indexed c.self.inside.beside.items
    ∙ ap (λ h. without c.args.tid h.held) c.self.view_is
