use Rattle.std.proofs.Common.{◌++◌, rules, not, ◌==◌, sym, subst, ap, ◌∙◌}
use Rattle.std.specs.List.{filter}
use Rattle.std.proofs.lemmas.Fn.{filter_same}
use Rattle.std.proofs.lemmas.List.Elements.{filter-append}
use Rattle.fab_protocol.specs.Stores.{Prepared}
use Rattle.fab_locks.specs.Conflicts.{AreDistinct}
use Rattle.fab_locks.proofs.Tids.{distinct_filter}
use Rattle.fab_locks.proofs.locks.Locks.free_all_settled.Goals as goal

-- those of other workers stay
pub invariant_of-self : goal.invariant_of-self
invariant_of-self c =
    let other = λ (p : Prepared). not (p.0.worker == c.args.worker) in
    let xs = c.self.inside.indexed in
    let ys = c.self.inside.beside.items in
    let stays = filter_same _ other _ (λ x b f' k. search rules) _ _ c.retain.ensures.filtered in
    subst AreDistinct (filter-append other xs ys ∙ (λ i. sym c.free_all.ensures i ++ sym stays i)) (distinct_filter other (xs ++ ys) c.self.invariant)

pub returns-clause-held : goal.returns-clause-held
returns-clause-held c =
    let other = λ (p : Prepared). not (p.0.worker == c.args.worker) in
    let stays = filter_same _ other _ (λ x b f' k. search rules) _ _ c.retain.ensures.filtered in
    (λ i. c.free_all.ensures i ++ stays i)
    ∙ sym (filter-append other c.self.inside.indexed c.self.inside.beside.items)
    ∙ ap (λ h. filter other h.held) c.self.view_is
