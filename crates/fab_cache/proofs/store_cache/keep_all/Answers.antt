use Rattle.fab_cache.specs.Caching.{lasting, rows_in}
use Rattle.fab_cache.proofs.Putting.{keep_next}
use Rattle.fab_cache.proofs.store_cache.keep_all.Goals as goal

pub loop-oid-preserved : goal.loop-oid-preserved
loop-oid-preserved c =
    keep_next c.args.k (c.in-Some.oid.now, c.in-Some.row.now) c.loop-oid.rest c.next.new.self (rows_in c.loop-oid.entries.entries)
    (rows_in c.add_older.new.entries.entries) (lasting c.args.k (rows_in c.args.old.now.entries) (rows_in c.args.entries.now.entries)) c.in-Some.ensures.steps
    c.in_ok-add_older.ensures c.loop-oid.invariant
