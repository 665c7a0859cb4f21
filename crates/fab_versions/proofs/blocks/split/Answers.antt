use Rattle.fab_versions.proofs.Standing.{own_place, rows_at_stay, order_at_stays, rows_split_at, order_split_at, joined_ascends, rows_joined_at, order_joined_at}
use Rattle.fab_versions.proofs.blocks.split.Goals as goal

-- there are no halves
pub returns-in_default-clause-rows : goal.returns-in_default-clause-rows
returns-in_default-clause-rows c =
    let blocks = c.args.blocks.now.items in
    let d = c.index_mut.result.now in
    rows_at_stay d.0 blocks c.requires.in_order c.args.at (own_place blocks c.requires.in_order c.args.at c.requires.in_range d c.index_mut.ensures.value) d c.index_mut.ensures.value
    c.cut.new.self c.in_default.ensures.none

pub returns-in_default-clause-in_order : goal.returns-in_default-clause-in_order
returns-in_default-clause-in_order c =
    let blocks = c.args.blocks.now.items in
    let d = c.index_mut.result.now in
    order_at_stays d.0 blocks c.requires.in_order c.args.at (own_place blocks c.requires.in_order c.args.at c.requires.in_range d c.index_mut.ensures.value) d c.index_mut.ensures.value
    c.cut.new.self c.in_default.ensures.none

-- the upper half has a block of its own
pub returns-in_default-insert-clause-rows : goal.returns-in_default-insert-clause-rows
returns-in_default-insert-clause-rows c =
    rows_split_at c.args.blocks.now.items c.requires.in_order c.args.at c.requires.in_range c.index_mut.result.now c.index_mut.ensures.value
    c.cut.new.self c.in-Some.upper c.in-Some.middle c.in-Some.ensures.cut c.insert.new.self.items c.in_default-insert.ensures.items

pub returns-in_default-insert-clause-in_order : goal.returns-in_default-insert-clause-in_order
returns-in_default-insert-clause-in_order c =
    order_split_at c.args.blocks.now.items c.requires.in_order c.args.at c.requires.in_range c.index_mut.result.now c.index_mut.ensures.value
    c.cut.new.self c.in-Some.upper c.in-Some.middle c.in-Some.ensures.cut c.insert.new.self.items c.in_default-insert.ensures.items

-- or it goes back
pub join-requires-clause-ascending : goal.join-requires-clause-ascending
join-requires-clause-ascending c =
    joined_ascends c.args.blocks.now.items c.requires.in_order c.args.at c.requires.in_range c.index_mut.result.now c.index_mut.ensures.value
    c.cut.new.self c.in-Some.upper c.in-Some.middle c.in-Some.ensures.cut
    c.insert.new.self.items c.in-Err.ensures.items c.index_mut-in-Err.result.now c.index_mut-in-Err.ensures.value c.in-Err.refused.value c.in-Err.ensures.value_returned

pub returns-in-Err-clause-rows : goal.returns-in-Err-clause-rows
returns-in-Err-clause-rows c =
    rows_joined_at c.args.blocks.now.items c.requires.in_order c.args.at c.requires.in_range c.index_mut.result.now c.index_mut.ensures.value
    c.cut.new.self c.in-Some.upper c.in-Some.middle c.in-Some.ensures.cut
    c.insert.new.self.items c.in-Err.ensures.items c.index_mut-in-Err.result.now c.index_mut-in-Err.ensures.value c.in-Err.refused.value c.in-Err.ensures.value_returned
    c.join.new.self c.join.ensures

pub returns-in-Err-clause-in_order : goal.returns-in-Err-clause-in_order
returns-in-Err-clause-in_order c =
    order_joined_at c.args.blocks.now.items c.requires.in_order c.args.at c.requires.in_range c.index_mut.result.now c.index_mut.ensures.value
    c.cut.new.self c.in-Some.upper c.in-Some.middle c.in-Some.ensures.cut
    c.insert.new.self.items c.in-Err.ensures.items c.index_mut-in-Err.result.now c.index_mut-in-Err.ensures.value c.in-Err.refused.value c.in-Err.ensures.value_returned
    c.join.new.self c.join.ensures
