use Rattle.std.proofs.Common.{sym, ap, ◌∙◌, Some}
use Rattle.fab_cache.specs.Caching.{renewed_one}
use Rattle.fab_cache.proofs.Laying.{none_here, some_here}
use Rattle.fab_cache.proofs.rows.renewed_cache.Goals as goal

pub returns-then-not-has_store : goal.returns-then-not-has_store
returns-then-not-has_store c =
    sym (ap (λ here. renewed_one c.args.k here c.args.cache.now) (none_here c.args.store c.args.puts.now (sym c.if-not-has_store.ensures)))

pub returns : goal.returns
returns c =
    ap Some c.in_ok-behind.ensures
    ∙ sym (some_here c.args.k c.args.store c.args.puts.now c.args.cache.now (sym c.if-not-has_store.ensures))
