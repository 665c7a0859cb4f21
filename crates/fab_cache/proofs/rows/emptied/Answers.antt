use Rattle.std.proofs.Common.{◌<◌, [], slice_set, length, ap, ◌∙◌, arith}
use Rattle.std.proofs.lemmas.List.Edits.{map_over_more}
use Rattle.fab_cache.proofs.rows.emptied.Goals as goal

pub loop-cache-preserved : goal.loop-cache-preserved
loop-cache-preserved c =
    let here : c.loop-cache.cache-index < length c.args.caches.now = omega arith in
    ap (slice_set c.loop-cache.caches c.loop-cache.cache-index) c.empty.ensures
    ∙ map_over_more (λ cache. []) c.args.caches.now c.loop-cache.caches c.loop-cache.cache-index c.cache-item.result here c.loop-cache.invariant c.cache-item.is
