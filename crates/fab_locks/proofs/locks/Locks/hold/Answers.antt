use Rattle.std.proofs.Common.{refl, ap, ◌∙◌, ◌++◌}
use Rattle.fab_protocol.specs.Stores.{Prepared}
use Rattle.fab_locks.specs.Conflicts.{holds_tid}
use Rattle.fab_locks.proofs.Joining.{distinct_more, more_beside}
use Rattle.fab_locks.proofs.locks.Locks.hold.Goals as goal

-- the newest stands last in the list
pub invariant_of-self-2 : goal.invariant_of-self-2
invariant_of-self-2 c =
    let xs = c.self.inside.indexed in
    let ys = c.self.inside.beside.items in
    let p : Prepared = (c.args.tid, c.args.items) in
    let absent = ap (λ h. holds_tid c.args.tid h.held) c.self.view_is ∙ c.requires.absent in
    distinct_more xs ys (xs ++ c.push.new.self.items) c.args.tid c.args.items c.self.invariant absent
    (more_beside xs ys xs c.push.new.self.items p p refl c.in_ok-push.ensures.items refl)
