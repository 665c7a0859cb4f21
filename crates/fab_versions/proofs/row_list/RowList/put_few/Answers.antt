use Rattle.std.proofs.Common.{◌≡◌, None, refl, ap, sym, ◌∙◌, subst, IsTrue}
use Rattle.std.specs.List.{insert}
use Rattle.fab_protocol.specs.Tables.{row_of, placed, ascends}
use Rattle.fab_protocol.specs.Versions.{Row, name_of}
use Rattle.fab_protocol.proofs.TableLaws.{ascends_placed}
use Rattle.fab_versions.specs.Places.{IsAt, IsGap}
use Rattle.fab_versions.proofs.Found.{placed_at, placed_in_gap, row_in_gap}
use Rattle.fab_versions.proofs.Standing.{either, at_ok, at_err, not_ok}
use Rattle.fab_versions.proofs.row_list.RowList.put_few.Goals as goal
use Rattle.fab_versions.proofs.row_list.RowList.put_few.Goals.{in-Ok-insert, in-Err-insert}

-- the row is written over
pub invariant_of-self : goal.invariant_of-self
invariant_of-self c =
    let at = subst (λ l. IsAt name_of l c.args.oid c.in-Ok.at) c.deref.ensures.value c.in-Ok.ensures.found in
    let row : Row = (c.args.oid, c.args.version, c.args.object) in
    ap (ascends name_of) (sym (placed_at name_of c.self.inside.rows.items c.self.invariant c.args.oid c.in-Ok.at at row refl))
    ∙ ascends_placed name_of row c.self.inside.rows.items c.self.invariant

pub returns-in-Ok-clause-ok : goal.returns-in-Ok-clause-ok
returns-in-Ok-clause-ok c =
    let at = subst (λ l. IsAt name_of l c.args.oid c.in-Ok.at) c.deref.ensures.value c.in-Ok.ensures.found in
    let row : Row = (c.args.oid, c.args.version, c.args.object) in
    sym (placed_at name_of c.self.inside.rows.items c.self.invariant c.args.oid c.in-Ok.at at row refl)
    ∙ ap (λ h. placed name_of row h.rows) c.self.view_is

-- it is new, and there are enough
pub returns-then-most-len-clause-absent : goal.returns-then-most-len-clause-absent
returns-then-most-len-clause-absent c =
    let gap = subst (λ l. IsGap name_of l c.args.oid c.in-Err.at) c.deref.ensures.value c.in-Err.ensures.absent in
    ap (λ h. row_of name_of h.rows c.args.oid) (sym c.self.view_is) ∙ row_in_gap name_of c.self.inside.rows.items c.args.oid c.in-Err.at gap

-- or it is inserted, where there is memory
pub invariant_of-self-in-Err : goal.invariant_of-self-in-Err
invariant_of-self-in-Err c =
    let gap = subst (λ l. IsGap name_of l c.args.oid c.in-Err.at) c.deref.ensures.value c.in-Err.ensures.absent in
    let row : Row = (c.args.oid, c.args.version, c.args.object) in
    let old = c.self.inside.rows.items in
    either c.insert.result (λ l. IsTrue (ascends name_of l)) c.insert.new.self.items (insert old c.in-Err.at row) old c.insert.ensures.items
    (subst (λ l. IsTrue (ascends name_of l)) (placed_in_gap name_of old c.args.oid c.in-Err.at gap row refl) (ascends_placed name_of row old c.self.invariant)) c.self.invariant

pub returns-after-insert-clause-ok : goal.returns-after-insert-clause-ok
returns-after-insert-clause-ok c =
    let gap = subst (λ l. IsGap name_of l c.args.oid c.in-Err.at) c.deref.ensures.value c.in-Err.ensures.absent in
    let row : Row = (c.args.oid, c.args.version, c.args.object) in
    elim c.match-insert.branch [
      | in-Ok-insert w ↦
          at_ok c.match-insert.result (c.insert.new.self.items ≡ placed name_of row c.args.self.now.rows)
          (w.in-Ok-insert.ensures.items
          ∙ sym (placed_in_gap name_of c.self.inside.rows.items c.args.oid c.in-Err.at gap row refl)
          ∙ ap (λ h. placed name_of row h.rows) c.self.view_is)
      | in-Err-insert w ↦ not_ok c.match-insert.result (c.insert.new.self.items ≡ placed name_of row c.args.self.now.rows) w.result-is
    ]

pub returns-after-insert-clause-absent : goal.returns-after-insert-clause-absent
returns-after-insert-clause-absent c =
    let gap = subst (λ l. IsGap name_of l c.args.oid c.in-Err.at) c.deref.ensures.value c.in-Err.ensures.absent in
    at_err c.match-insert.result (row_of name_of c.args.self.now.rows c.args.oid ≡ None)
    (ap (λ h. row_of name_of h.rows c.args.oid) (sym c.self.view_is) ∙ row_in_gap name_of c.self.inside.rows.items c.args.oid c.in-Err.at gap)
