use Rattle.std.proofs.Common.{is_some, ap, ◌∙◌}
use Rattle.fab_locks.specs.Conflicts.{holds_tid}
use Rattle.fab_locks.proofs.Finding.{all_found, held_if_numbered}
use Rattle.fab_locks.proofs.indexed.Indexed.is_held.Goals as goal

pub returns : goal.returns
returns c =
    let x = c.self.inside in
    c.is_some.ensures
    ∙ ap is_some c.number_of.ensures
    ∙ held_if_numbered x.held.entries x.index c.self.invariant (all_found x.held c.self.invariant.ordered) c.args.tid
    ∙ ap (holds_tid c.args.tid) c.self.view_is
