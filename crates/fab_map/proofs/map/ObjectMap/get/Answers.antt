use Rattle.std.proofs.Common.{Some, ap, sym, ◌∙◌, subst}
use Rattle.fab_base.specs.FlatMap.{get}
use Rattle.fab_map.specs.Places.{IsAt, IsGap}
use Rattle.fab_map.proofs.Found.{get_at, get_in_gap}
use Rattle.fab_map.proofs.map.ObjectMap.get.Goals as goal

-- the row that is read has the name
pub returns-in-Ok : goal.returns-in-Ok
returns-in-Ok c =
    let at = subst (λ l. IsAt l c.args.oid c.in-Ok.at) c.deref.ensures.value c.in-Ok.ensures.found in
    ap (λ row. Some row.1) c.index.ensures
    ∙ sym (get_at c.self.inside.rows.items c.self.invariant c.args.oid c.in-Ok.at at c.index.result.now)
    ∙ ap (λ l. get l c.args.oid) c.self.view_is

-- no row has it
pub returns-in-Err : goal.returns-in-Err
returns-in-Err c =
    let gap = subst (λ l. IsGap l c.args.oid c.in-Err.field-0) c.deref.ensures.value c.in-Err.ensures.absent in
    sym (get_in_gap c.self.inside.rows.items c.args.oid c.in-Err.field-0 gap) ∙ ap (λ l. get l c.args.oid) c.self.view_is
