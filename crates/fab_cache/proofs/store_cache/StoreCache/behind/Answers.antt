use Rattle.std.proofs.Common.{◌≡◌, ◌++◌, sym, subst}
use Rattle.fab_protocol.specs.Caches.{at_store, last_distinct}
use Rattle.fab_protocol.specs.Tables.{OnlyOnce}
use Rattle.fab_protocol.specs.Versions.{names_of}
use Rattle.fab_cache.specs.Caching.{rows_in}
use Rattle.fab_cache.proofs.Lasting.{last_once}
use Rattle.fab_cache.proofs.Putting.{behind_is}
use Rattle.fab_cache.proofs.store_cache.StoreCache.behind.Goals as goal

pub invariant_of-result : goal.invariant_of-result
invariant_of-result c =
    let is : rows_in c.keep_all.new.entries.entries ≡ last_distinct c.args.k (c.args.self.now ++ at_store c.args.store c.args.puts.now) =
    behind_is c.args.k c.in_ok-entries.entries.entries c.args.self.now (rows_in c.self.inside.entries.entries) (at_store c.args.store c.args.puts.now)
    (rows_in c.put_all.new.entries.entries) (rows_in c.keep_all.new.entries.entries) c.in_ok-entries.ensures.empty c.in_ok-put_all.ensures
    c.in_ok-keep_all.ensures c.self.view_is in
    subst (λ l. OnlyOnce (names_of l)) (sym is) (last_once c.args.k (c.args.self.now ++ at_store c.args.store c.args.puts.now))

pub returns : goal.returns
returns c =
    behind_is c.args.k c.in_ok-entries.entries.entries c.args.self.now (rows_in c.self.inside.entries.entries) (at_store c.args.store c.args.puts.now)
    (rows_in c.put_all.new.entries.entries) (rows_in c.keep_all.new.entries.entries) c.in_ok-entries.ensures.empty c.in_ok-put_all.ensures
    c.in_ok-keep_all.ensures c.self.view_is
