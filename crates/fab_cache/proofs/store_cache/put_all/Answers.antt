use Rattle.std.proofs.Common.{sym, ◌∙◌}
use Rattle.fab_protocol.specs.Caches.{at_store}
use Rattle.fab_cache.specs.Caching.{lasting, rows_in}
use Rattle.fab_cache.proofs.Putting.{put_elsewhere, put_here}
use Rattle.fab_cache.proofs.store_cache.put_all.Goals as goal

pub loop-put-preserved-in_ok-add_older : goal.loop-put-preserved-in_ok-add_older
loop-put-preserved-in_ok-add_older c =
    put_here c.args.k c.args.store c.loop-put.rest.now c.in-Some.older.now c.in-Some.put.now (rows_in c.loop-put.entries.entries)
    (lasting c.args.k (at_store c.args.store c.args.puts.now) (rows_in c.args.entries.now.entries)) c.in-Some.ensures.cases.0 c.loop-put.invariant
    (rows_in c.add_older.new.entries.entries) (sym c.is_of.ensures ∙ c.if-is_of.true) c.in_ok-add_older.ensures

pub loop-put-preserved : goal.loop-put-preserved
loop-put-preserved c =
    put_elsewhere c.args.k c.args.store c.loop-put.rest.now c.in-Some.older.now c.in-Some.put.now (rows_in c.loop-put.entries.entries)
    (lasting c.args.k (at_store c.args.store c.args.puts.now) (rows_in c.args.entries.now.entries)) c.in-Some.ensures.cases.0 c.loop-put.invariant
    (sym c.is_of.ensures ∙ c.if-is_of.false)
