use Rattle.std.proofs.Common.{ap, sym, ◌∙◌, subst}
use Rattle.fab_base.specs.FlatMap.{get, ascends}
use Rattle.fab_map.specs.Changes.{field_in, put_field}
use Rattle.fab_map.specs.Places.{IsAt, IsGap}
use Rattle.fab_map.proofs.Changing.{ascends-put_field, field_read, put_field_absent, put_field_at}
use Rattle.fab_map.proofs.Found.{get_in_gap}
use Rattle.fab_map.proofs.map.ObjectMap.set_field.Goals as goal

-- the field is written in the row that has the name
pub invariant_of-self : goal.invariant_of-self
invariant_of-self c =
    let at = subst (λ l. IsAt l c.args.oid c.in-Ok.at) c.deref.ensures.value c.in-Ok.ensures.found in
    ap ascends (put_field_at c.self.inside.rows.items c.self.invariant c.args.oid c.in-Ok.at at c.index_mut-row.result.now c.index_mut-row.ensures.value c.args.field c.args.value c.replace-fields.result c.with_item-fields.result.0 c.replace-fields.ensures.value c.with_item-fields.ensures.after)
    ∙ ascends-put_field c.args.oid c.args.field c.args.value c.self.inside.rows.items c.self.invariant

pub returns-in-Ok-clause-written : goal.returns-in-Ok-clause-written
returns-in-Ok-clause-written c =
    let at = subst (λ l. IsAt l c.args.oid c.in-Ok.at) c.deref.ensures.value c.in-Ok.ensures.found in
    put_field_at c.self.inside.rows.items c.self.invariant c.args.oid c.in-Ok.at at c.index_mut-row.result.now c.index_mut-row.ensures.value c.args.field c.args.value c.replace-fields.result c.with_item-fields.result.0 c.replace-fields.ensures.value c.with_item-fields.ensures.after
    ∙ ap (put_field c.args.oid c.args.field c.args.value) c.self.view_is

pub returns-in-Ok-clause-before : goal.returns-in-Ok-clause-before
returns-in-Ok-clause-before c =
    let at = subst (λ l. IsAt l c.args.oid c.in-Ok.at) c.deref.ensures.value c.in-Ok.ensures.found in
    field_read c.self.inside.rows.items c.self.invariant c.args.oid c.in-Ok.at at c.index_mut-row.result.now c.index_mut-row.ensures.value c.args.field c.replace-fields.result c.with_item-fields.result.1 c.replace-fields.ensures.value c.with_item-fields.ensures.before
    ∙ ap (λ l. field_in c.args.field (get l c.args.oid)) c.self.view_is

-- no row has the name
pub returns-in-Err-clause-written : goal.returns-in-Err-clause-written
returns-in-Err-clause-written c =
    let gap = subst (λ l. IsGap l c.args.oid c.in-Err.field-0) c.deref.ensures.value c.in-Err.ensures.absent in
    sym (put_field_absent c.args.oid c.args.field c.args.value c.args.self.now (ap (λ l. get l c.args.oid) (sym c.self.view_is) ∙ get_in_gap c.self.inside.rows.items c.args.oid c.in-Err.field-0 gap))

pub returns-in-Err-clause-before : goal.returns-in-Err-clause-before
returns-in-Err-clause-before c =
    let gap = subst (λ l. IsGap l c.args.oid c.in-Err.field-0) c.deref.ensures.value c.in-Err.ensures.absent in
    ap (field_in c.args.field) (sym (get_in_gap c.self.inside.rows.items c.args.oid c.in-Err.field-0 gap) ∙ ap (λ l. get l c.args.oid) c.self.view_is)
