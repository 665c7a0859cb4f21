use Rattle.std.proofs.Common.{◌≡◌, Some, None, MatchOption, subst, sym, ap, ◌∙◌}
use Rattle.fab_protocol.specs.Tables.{row_of}
use Rattle.fab_protocol.specs.Versions.{name_of}
use Rattle.fab_versions.specs.Blocked.{AreBehind, IsBlockAt}
use Rattle.fab_versions.proofs.Standing.{found_in_block, no_row}
use Rattle.fab_versions.proofs.blocks.Blocks.get.Goals as goal

-- as the block of the name has it
pub returns-in-Some : goal.returns-in-Some
returns-in-Some c =
    let same : row_of name_of c.args.self.now c.args.oid ≡ row_of name_of c.index.result.now.1.rows c.args.oid =
    ap (λ l. row_of name_of l c.args.oid) (sym c.self.view_is)
    ∙ found_in_block c.args.oid c.self.inside.blocks.items c.self.invariant c.in-Some.at (subst (λ l. IsBlockAt c.args.oid l c.in-Some.at) c.as_slice.ensures.value c.in-Some.ensures) c.index.result.now c.index.ensures in
    subst (λ row. MatchOption c.get.result (row ≡ None) (λ found. row ≡ Some (c.args.oid, found.0, found.1.now))) (sym same) c.get.ensures.found

-- or there is none
pub returns-in-None : goal.returns-in-None
returns-in-None c =
    ap (λ l. row_of name_of l c.args.oid) (sym c.self.view_is) ∙ no_row c.args.oid c.self.inside.blocks.items c.self.invariant (subst (AreBehind c.args.oid) c.as_slice.ensures.value c.in-None.ensures)
