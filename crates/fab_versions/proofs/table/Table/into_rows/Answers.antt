use Rattle.std.proofs.Common.{IsTrue, subst, sym, ap, ◌∙◌}
use Rattle.fab_protocol.specs.Tables.{ascends}
use Rattle.fab_protocol.specs.Versions.{name_of}
use Rattle.fab_protocol.proofs.TableLaws.{ascends_placed_all}
use Rattle.fab_versions.proofs.Whole.{list_alone}
use Rattle.fab_versions.proofs.table.Table.into_rows.Goals as goal

-- the list alone
pub returns-then-has_no_block-clause-rows : goal.returns-then-has_no_block-clause-rows
returns-then-has_no_block-clause-rows c =
    c.from_vec.ensures
    ∙ c.into_vec.ensures.rows
    ∙ sym (list_alone c.self.inside.blocks c.self.inside.beside.rows c.into_vec.ensures.ascending (c.has_no_block.ensures c.if-has_no_block.true))
    ∙ ap (λ h. h.rows) c.self.view_is

-- what is put among ascending rows ascends
pub returns-then-has_no_block-clause-ascending : goal.returns-then-has_no_block-clause-ascending
returns-then-has_no_block-clause-ascending c =
    subst (λ h. IsTrue (ascends name_of h.rows)) c.self.view_is (ascends_placed_all name_of c.self.inside.beside.rows c.self.inside.blocks c.walk_in_order.ensures)

pub returns-in_err-into_rows-clause-ascending : goal.returns-in_err-into_rows-clause-ascending
returns-in_err-into_rows-clause-ascending c =
    subst (λ h. IsTrue (ascends name_of h.rows)) c.self.view_is (ascends_placed_all name_of c.self.inside.beside.rows c.self.inside.blocks c.walk_in_order.ensures)

pub returns-in_err-put_all-clause-ascending : goal.returns-in_err-put_all-clause-ascending
returns-in_err-put_all-clause-ascending c =
    subst (λ h. IsTrue (ascends name_of h.rows)) c.self.view_is (ascends_placed_all name_of c.self.inside.beside.rows c.self.inside.blocks c.walk_in_order.ensures)
