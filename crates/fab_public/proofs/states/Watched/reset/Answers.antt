use Rattle.fab_public.specs.Settings.{public_at}
use Rattle.fab_public.proofs.Watching.{fresh_caching}
use Rattle.fab_public.proofs.states.Watched.reset.Goals as goal

pub returns-clause-caching : goal.returns-clause-caching
returns-clause-caching c = fresh_caching (public_at c.args.setting.now).cache _ c.in_ok-caches.ensures
