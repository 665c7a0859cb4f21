use Rattle.std.proofs.Common.{ap}
use Rattle.fab_versions.proofs.Whole.{front_ascends, last_row, no_other}
use Rattle.fab_versions.proofs.row_list.RowList.pop.Goals as goal

-- the rows before the last ascend still
pub invariant_of-self : goal.invariant_of-self
invariant_of-self c =
    front_ascends c.self.inside.rows.items c.pop.new.self.items c.args.self.now.rows c.self.invariant (ap (λ h. h.rows) c.self.view_is) c.pop.result c.pop.ensures.items

-- the last goes behind them, and none of them has its name
pub returns-clause-rows : goal.returns-clause-rows
returns-clause-rows c =
    last_row c.self.inside.rows.items c.pop.new.self.items c.args.self.now.rows c.self.invariant (ap (λ h. h.rows) c.self.view_is) c.pop.result c.pop.ensures.items

pub returns-clause-absent : goal.returns-clause-absent
returns-clause-absent c =
    no_other c.self.inside.rows.items c.pop.new.self.items c.args.self.now.rows c.self.invariant (ap (λ h. h.rows) c.self.view_is) c.pop.result c.pop.ensures.items

pub returns-clause-ascending : goal.returns-clause-ascending
returns-clause-ascending c =
    front_ascends c.self.inside.rows.items c.pop.new.self.items c.args.self.now.rows c.self.invariant (ap (λ h. h.rows) c.self.view_is) c.pop.result c.pop.ensures.items
