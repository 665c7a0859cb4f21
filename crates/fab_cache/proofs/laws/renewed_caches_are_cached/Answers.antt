use Rattle.fab_cache.proofs.Laying.{laid_renewed}
use Rattle.fab_cache.proofs.laws.renewed_caches_are_cached.Goals as goal

pub returns : goal.returns
returns c = laid_renewed
