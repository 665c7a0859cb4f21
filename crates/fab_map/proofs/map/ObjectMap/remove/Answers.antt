use Rattle.std.proofs.Common.{Some, ap, sym, ◌∙◌, subst}
use Rattle.fab_base.specs.FlatMap.{get, ascends}
use Rattle.fab_map.specs.Changes.{removed}
use Rattle.fab_map.specs.Places.{IsAt, IsGap}
use Rattle.fab_map.proofs.Changing.{ascends-removed, removed_absent, removed_at}
use Rattle.fab_map.proofs.Found.{get_at, get_in_gap}
use Rattle.fab_map.proofs.map.ObjectMap.remove.Goals as goal

-- the row that is taken away has the name
pub invariant_of-self : goal.invariant_of-self
invariant_of-self c =
    let at = subst (λ l. IsAt l c.args.oid c.in-Ok.at) c.deref.ensures.value c.in-Ok.ensures.found in
    ap ascends (c.remove.ensures.items ∙ sym (removed_at c.self.inside.rows.items c.self.invariant c.args.oid c.in-Ok.at at))
    ∙ ascends-removed c.args.oid c.self.inside.rows.items c.self.invariant

pub returns-in-Ok-clause-removed : goal.returns-in-Ok-clause-removed
returns-in-Ok-clause-removed c =
    let at = subst (λ l. IsAt l c.args.oid c.in-Ok.at) c.deref.ensures.value c.in-Ok.ensures.found in
    c.remove.ensures.items
    ∙ sym (removed_at c.self.inside.rows.items c.self.invariant c.args.oid c.in-Ok.at at)
    ∙ ap (removed c.args.oid) c.self.view_is

pub returns-in-Ok-clause-before : goal.returns-in-Ok-clause-before
returns-in-Ok-clause-before c =
    let at = subst (λ l. IsAt l c.args.oid c.in-Ok.at) c.deref.ensures.value c.in-Ok.ensures.found in
    ap (λ row. Some row.1) c.remove.ensures.value
    ∙ sym (get_at c.self.inside.rows.items c.self.invariant c.args.oid c.in-Ok.at at c.remove.result)
    ∙ ap (λ l. get l c.args.oid) c.self.view_is

-- no row has it
pub returns-in-Err-clause-removed : goal.returns-in-Err-clause-removed
returns-in-Err-clause-removed c =
    let gap = subst (λ l. IsGap l c.args.oid c.in-Err.field-0) c.deref.ensures.value c.in-Err.ensures.absent in
    sym (removed_absent c.args.self.now c.args.oid (ap (λ l. get l c.args.oid) (sym c.self.view_is) ∙ get_in_gap c.self.inside.rows.items c.args.oid c.in-Err.field-0 gap))

pub returns-in-Err-clause-before : goal.returns-in-Err-clause-before
returns-in-Err-clause-before c =
    let gap = subst (λ l. IsGap l c.args.oid c.in-Err.field-0) c.deref.ensures.value c.in-Err.ensures.absent in
    sym (get_in_gap c.self.inside.rows.items c.args.oid c.in-Err.field-0 gap) ∙ ap (λ l. get l c.args.oid) c.self.view_is
