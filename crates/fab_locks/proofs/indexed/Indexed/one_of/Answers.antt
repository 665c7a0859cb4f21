use Rattle.std.proofs.Common.{◌==◌, not, sym, ap, ◌∙◌}
use Rattle.std.specs.List.{filter}
use Rattle.fab_locks.specs.Conflicts.{holds_tid}
use Rattle.fab_locks.proofs.Finding.{all_found, all_others, held_if_numbered}
use Rattle.fab_locks.proofs.Putting.{where_none_found, where_some}
use Rattle.fab_locks.proofs.indexed.Indexed.one_of.Goals as goal

pub returns-clause-held : goal.returns-clause-held
returns-clause-held c =
    let x = c.self.inside in
    where_some c.first_of.result
    (λ t h. ap (holds_tid t) (sym c.self.view_is) ∙ sym (held_if_numbered x.held.entries x.index c.self.invariant (all_found x.held c.self.invariant.ordered) t) ∙ h)
    c.first_of.ensures.there

pub returns-clause-none : goal.returns-clause-none
returns-clause-none c =
    let x = c.self.inside in
    where_none_found c.first_of.result
    (λ h. ap (filter (λ p. not (p.0.worker == c.args.worker))) (sym c.self.view_is)
    ∙ all_others x.held.entries x.index c.self.invariant (all_found x.held c.self.invariant.ordered) c.args.worker h
    ∙ c.self.view_is)
    c.first_of.ensures.none
