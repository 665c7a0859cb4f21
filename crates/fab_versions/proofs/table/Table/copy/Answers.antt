use Rattle.std.proofs.Common.{IsTrue, subst}
use Rattle.fab_protocol.specs.Tables.{ascends}
use Rattle.fab_protocol.specs.Versions.{name_of}
use Rattle.fab_protocol.proofs.TableLaws.{ascends_placed_all}
use Rattle.fab_versions.proofs.table.Table.copy.Goals as goal

-- what is put among ascending rows ascends
pub returns-in_err-blocks-clause-ascending : goal.returns-in_err-blocks-clause-ascending
returns-in_err-blocks-clause-ascending c =
    subst (λ h. IsTrue (ascends name_of h.rows)) c.self.view_is (ascends_placed_all name_of c.self.inside.beside.rows c.self.inside.blocks c.walk_in_order.ensures)

pub returns-in_err-beside-clause-ascending : goal.returns-in_err-beside-clause-ascending
returns-in_err-beside-clause-ascending c =
    subst (λ h. IsTrue (ascends name_of h.rows)) c.self.view_is (ascends_placed_all name_of c.self.inside.beside.rows c.self.inside.blocks c.walk_in_order.ensures)

pub returns-clause-ascending : goal.returns-clause-ascending
returns-clause-ascending c =
    subst (λ h. IsTrue (ascends name_of h.rows)) c.self.view_is (ascends_placed_all name_of c.self.inside.beside.rows c.self.inside.blocks c.walk_in_order.ensures)
