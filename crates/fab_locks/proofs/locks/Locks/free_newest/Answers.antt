use Rattle.std.proofs.Common.{◌≡◌, ◌++◌, ◌∷◌, [], MatchOption, subst}
use Rattle.fab_protocol.specs.Stores.{prepared_as, without}
use Rattle.fab_locks.specs.Conflicts.{Holding}
use Rattle.fab_locks.proofs.Joining.{distinct_behind, distinct_newest, freed_newest}
use Rattle.fab_locks.proofs.locks.Locks.free_newest.Goals as goal

pub free_beside-requires : goal.free_beside-requires
free_beside-requires c = record { distinct = distinct_behind c.self.inside.indexed c.self.inside.beside.items c.self.invariant }

pub invariant_of-self : goal.invariant_of-self
invariant_of-self c =
    distinct_newest c.args.tid c.self.inside.indexed c.self.inside.beside.items c.self.invariant c.free_beside.new.held.items
    c.free_beside.ensures.held c.free_beside.result c.free_beside.ensures.items

pub returns-clause-items : goal.returns-clause-items
returns-clause-items c =
    let xs = c.self.inside.indexed in
    let left = c.free_beside.new.held.items in
    subst
    (λ (h : Holding). MatchOption c.free_beside.result (xs ++ left ≡ h.held)
    (λ items. (prepared_as c.args.tid h.held ≡ (c.args.tid, items) ∷ []) × (xs ++ left ≡ without c.args.tid h.held)))
    c.self.view_is
    (freed_newest c.args.tid xs c.self.inside.beside.items c.self.invariant left c.free_beside.ensures.held c.free_beside.result c.free_beside.ensures.items)
