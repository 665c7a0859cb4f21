use Rattle.std.proofs.Common.{◌∙◌}
use Rattle.fab_cache.proofs.Putting.{among_is}
use Rattle.fab_cache.proofs.store_cache.has.Goals as goal

pub returns : goal.returns
returns c = c.contains_key.ensures ∙ among_is c.args.oid c.args.entries.now.entries
