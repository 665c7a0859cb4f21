use Rattle.std.proofs.Common.{◌≡◌, None, ◌∙◌, set, subst}
use Rattle.fab_protocol.specs.Tables.{row_of, placed}
use Rattle.fab_protocol.specs.Versions.{name_of}
use Rattle.fab_versions.specs.Blocked.{rows_in, AreBehind, InBlocks, IsBlockAt}
use Rattle.fab_versions.proofs.Standing.{by_result, on_ok, on_err, no_row, found_in_block, rows_at_stay, order_at_stays, rows_at_placed, order_at_placed}
use Rattle.fab_versions.proofs.blocks.put_in_block.Goals as goal

-- there is no block, and so no row
pub returns-in-None-clause-absent : goal.returns-in-None-clause-absent
returns-in-None-clause-absent c = no_row c.args.oid c.args.blocks.now.items c.requires (subst (AreBehind c.args.oid) c.as_slice.ensures.value c.in-None.ensures)

-- the row is put into the block
pub returns-in-Some-clause-ok : goal.returns-in-Some-clause-ok
returns-in-Some-clause-ok c =
    let d = c.index_mut.result.now in
    let w = c.put_few.new.self in
    let blocks = c.args.blocks.now.items in
    on_ok c.put_few.result (w.rows ≡ placed name_of (c.args.oid, c.args.version, c.args.object) d.1.rows)
    (rows_in (set blocks c.in-Some.at (d.0, w)) ≡ placed name_of (c.args.oid, c.args.version, c.args.object) (rows_in blocks))
    (λ is. rows_at_placed c.args.oid blocks c.requires c.in-Some.at (subst (λ l. IsBlockAt c.args.oid l c.in-Some.at) c.as_slice.ensures.value c.in-Some.ensures) d c.index_mut.ensures.value w c.args.version c.args.object is) c.put_few.ensures.ok

-- or the block stays
pub returns-in-Some-clause-err : goal.returns-in-Some-clause-err
returns-in-Some-clause-err c =
    let d = c.index_mut.result.now in
    let w = c.put_few.new.self in
    let blocks = c.args.blocks.now.items in
    on_err c.put_few.result (w.rows ≡ d.1.rows) (rows_in (set blocks c.in-Some.at (d.0, w)) ≡ rows_in blocks)
    (λ is. rows_at_stay c.args.oid blocks c.requires c.in-Some.at (subst (λ l. IsBlockAt c.args.oid l c.in-Some.at) c.as_slice.ensures.value c.in-Some.ensures) d c.index_mut.ensures.value w is) c.put_few.ensures.err

pub returns-in-Some-clause-in_order : goal.returns-in-Some-clause-in_order
returns-in-Some-clause-in_order c =
    let d = c.index_mut.result.now in
    let w = c.put_few.new.self in
    let blocks = c.args.blocks.now.items in
    by_result c.put_few.result (InBlocks (set blocks c.in-Some.at (d.0, w))) (w.rows ≡ placed name_of (c.args.oid, c.args.version, c.args.object) d.1.rows) (w.rows ≡ d.1.rows)
    c.put_few.ensures.ok c.put_few.ensures.err
    (λ is. order_at_placed c.args.oid blocks c.requires c.in-Some.at (subst (λ l. IsBlockAt c.args.oid l c.in-Some.at) c.as_slice.ensures.value c.in-Some.ensures) d c.index_mut.ensures.value w c.args.version c.args.object is)
    (λ is. order_at_stays c.args.oid blocks c.requires c.in-Some.at (subst (λ l. IsBlockAt c.args.oid l c.in-Some.at) c.as_slice.ensures.value c.in-Some.ensures) d c.index_mut.ensures.value w is)

pub returns-in-Some-clause-absent : goal.returns-in-Some-clause-absent
returns-in-Some-clause-absent c =
    let d = c.index_mut.result.now in
    let blocks = c.args.blocks.now.items in
    on_err c.put_few.result (row_of name_of d.1.rows c.args.oid ≡ None) (row_of name_of (rows_in blocks) c.args.oid ≡ None)
    (λ none. found_in_block c.args.oid blocks c.requires c.in-Some.at (subst (λ l. IsBlockAt c.args.oid l c.in-Some.at) c.as_slice.ensures.value c.in-Some.ensures) d c.index_mut.ensures.value ∙ none) c.put_few.ensures.absent
