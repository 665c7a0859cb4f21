use Rattle.std.proofs.Common.{◌≡◌, take, IsTrue, subst, sym}
use Rattle.fab_protocol.specs.Tables.{ascends}
use Rattle.fab_protocol.specs.Versions.{name_of}
use Rattle.fab_versions.proofs.Standing.{by_result, ascends_take, ascends_drop}
use Rattle.fab_versions.proofs.row_list.RowList.cut.Goals as goal

-- both halves ascend
pub invariant_of-result : goal.invariant_of-result
invariant_of-result c =
    subst (λ l. IsTrue (ascends name_of l)) (sym c.in-Ok.ensures.tail) (ascends_drop name_of (c.place_to_cut-at.result) c.self.inside.rows.items c.self.invariant)

pub invariant_of-self : goal.invariant_of-self
invariant_of-self c =
    let old = c.self.inside.rows in
    let new = c.split_off.new.self in
    by_result c.split_off.result (IsTrue (ascends name_of new.items)) (new.items ≡ take (c.place_to_cut-at.result) old.items) (new ≡ old) c.split_off.ensures.items c.split_off.ensures.err
    (λ is. subst (λ l. IsTrue (ascends name_of l)) (sym is) (ascends_take name_of (c.place_to_cut-at.result) old.items c.self.invariant))
    (λ same. subst (λ v. IsTrue (ascends name_of v.items)) (sym same) c.self.invariant)
