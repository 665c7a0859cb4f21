use Rattle.std.proofs.Common.{refl, ap, sym, ◌∙◌, subst, is_some}
use Rattle.fab_protocol.specs.Tables.{row_of, placed, ascends}
use Rattle.fab_protocol.specs.Versions.{Row, name_of}
use Rattle.fab_protocol.proofs.TableLaws.{ascends_placed}
use Rattle.fab_versions.specs.Places.{IsAt, IsGap}
use Rattle.fab_versions.proofs.Found.{placed_at, placed_in_gap}
use Rattle.fab_versions.proofs.Written.{not_in_gap}
use Rattle.fab_versions.proofs.row_list.RowList.put.Goals as goal

-- the row is written over
pub invariant_of-self : goal.invariant_of-self
invariant_of-self c =
    let at = subst (λ l. IsAt name_of l c.args.oid c.in-Ok.at) c.deref.ensures.value c.in-Ok.ensures.found in
    let row : Row = (c.args.oid, c.args.version, c.args.object) in
    ap (ascends name_of) (sym (placed_at name_of c.self.inside.rows.items c.self.invariant c.args.oid c.in-Ok.at at row refl))
    ∙ ascends_placed name_of row c.self.inside.rows.items c.self.invariant

pub returns-in-Ok-clause-ok : goal.returns-in-Ok-clause-ok
returns-in-Ok-clause-ok c =
    let at = subst (λ l. IsAt name_of l c.args.oid c.in-Ok.at) c.deref.ensures.value c.in-Ok.ensures.found in
    let row : Row = (c.args.oid, c.args.version, c.args.object) in
    sym (placed_at name_of c.self.inside.rows.items c.self.invariant c.args.oid c.in-Ok.at at row refl)
    ∙ ap (λ h. placed name_of row h.rows) c.self.view_is

-- or inserted
pub invariant_of-self-in-Err : goal.invariant_of-self-in-Err
invariant_of-self-in-Err c =
    let gap = subst (λ l. IsGap name_of l c.args.oid c.in-Err.at) c.deref.ensures.value c.in-Err.ensures.absent in
    let row : Row = (c.args.oid, c.args.version, c.args.object) in
    ap (ascends name_of) (c.in_ok-insert-in-Err.ensures.items ∙ sym (placed_in_gap name_of c.self.inside.rows.items c.args.oid c.in-Err.at gap row refl))
    ∙ ascends_placed name_of row c.self.inside.rows.items c.self.invariant

pub returns-in_ok-insert-in-Err-clause-ok : goal.returns-in_ok-insert-in-Err-clause-ok
returns-in_ok-insert-in-Err-clause-ok c =
    let gap = subst (λ l. IsGap name_of l c.args.oid c.in-Err.at) c.deref.ensures.value c.in-Err.ensures.absent in
    let row : Row = (c.args.oid, c.args.version, c.args.object) in
    c.in_ok-insert-in-Err.ensures.items
    ∙ sym (placed_in_gap name_of c.self.inside.rows.items c.args.oid c.in-Err.at gap row refl)
    ∙ ap (λ h. placed name_of row h.rows) c.self.view_is

-- where nothing of the name is there
pub returns-in_ok-insert-in-Err-clause-same_room : goal.returns-in_ok-insert-in-Err-clause-same_room
returns-in_ok-insert-in-Err-clause-same_room c =
    let gap = subst (λ l. IsGap name_of l c.args.oid c.in-Err.at) c.deref.ensures.value c.in-Err.ensures.absent in
    λ there. absurd (not_in_gap c.self.inside.rows.items c.args.oid c.in-Err.at gap (ap (λ h. is_some (row_of name_of h.rows c.args.oid)) c.self.view_is ∙ there))

pub returns-in_err-insert-in-Err-clause-there : goal.returns-in_err-insert-in-Err-clause-there
returns-in_err-insert-in-Err-clause-there c =
    let gap = subst (λ l. IsGap name_of l c.args.oid c.in-Err.at) c.deref.ensures.value c.in-Err.ensures.absent in
    λ there. absurd (not_in_gap c.self.inside.rows.items c.args.oid c.in-Err.at gap (ap (λ h. is_some (row_of name_of h.rows c.args.oid)) c.self.view_is ∙ there))
