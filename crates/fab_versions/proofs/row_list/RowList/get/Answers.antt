use Rattle.std.proofs.Common.{ap, sym, ◌∙◌, subst}
use Rattle.fab_protocol.specs.Tables.{row_of}
use Rattle.fab_protocol.specs.Versions.{name_of}
use Rattle.fab_versions.specs.Places.{IsAt, IsGap}
use Rattle.fab_versions.proofs.Found.{row_in_gap}
use Rattle.fab_versions.proofs.Written.{found_at}
use Rattle.fab_versions.proofs.row_list.RowList.get.Goals as goal

-- the row that is read has the name
pub returns-in-Ok-clause-found : goal.returns-in-Ok-clause-found
returns-in-Ok-clause-found c =
    let at = subst (λ l. IsAt name_of l c.args.oid c.in-Ok.at) c.deref.ensures.value c.in-Ok.ensures.found in
    ap (λ h. row_of name_of h.rows c.args.oid) (sym c.self.view_is)
    ∙ found_at c.self.inside.rows.items c.self.invariant c.args.oid c.in-Ok.at at c.index-row.result.now c.index-row.ensures

-- no row has it
pub returns-in-Err-clause-found : goal.returns-in-Err-clause-found
returns-in-Err-clause-found c =
    let gap = subst (λ l. IsGap name_of l c.args.oid c.in-Err.field-0) c.deref.ensures.value c.in-Err.ensures.absent in
    ap (λ h. row_of name_of h.rows c.args.oid) (sym c.self.view_is) ∙ row_in_gap name_of c.self.inside.rows.items c.args.oid c.in-Err.field-0 gap
