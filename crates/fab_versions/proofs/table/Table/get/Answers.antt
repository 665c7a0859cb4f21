use Rattle.std.proofs.Common.{◌≡◌, Some, None, MatchOption, subst, ap, sym, ◌∙◌}
use Rattle.fab_protocol.specs.Tables.{row_of}
use Rattle.fab_protocol.specs.Versions.{name_of}
use Rattle.fab_versions.proofs.Whole.{found_beside, past_beside}
use Rattle.fab_versions.proofs.table.Table.get.Goals as goal

-- beside the blocks
pub returns-in-Some : goal.returns-in-Some
returns-in-Some c =
    ap (λ h. row_of name_of h.rows c.args.oid) (sym c.self.view_is)
    ∙ found_beside c.self.inside.blocks c.self.inside.beside.rows c.get.ensures.ascending c.args.oid (c.args.oid, c.in-Some.version, c.in-Some.object.now) c.in-Some.ensures.found

-- or as the blocks have it
pub returns-in-None : goal.returns-in-None
returns-in-None c =
    let same : row_of name_of c.args.self.now.rows c.args.oid ≡ row_of name_of c.self.inside.blocks c.args.oid =
    ap (λ h. row_of name_of h.rows c.args.oid) (sym c.self.view_is)
    ∙ past_beside c.self.inside.blocks c.self.inside.beside.rows c.get.ensures.ascending c.args.oid c.in-None.ensures.found in
    subst (λ row. MatchOption c.get-in-None.result (row ≡ None) (λ found. row ≡ Some (c.args.oid, found.0, found.1.now))) (sym same) c.get-in-None.ensures
