use Rattle.std.proofs.Common.{refl, sym, subst}
use Rattle.fab_known.specs.Knowing.{Knows}
use Rattle.fab_public.specs.Settings.{public_at}
use Rattle.fab_public.specs.States.{IsRunBy}
use Rattle.fab_public.proofs.Watching.{fresh_caching}
use Rattle.fab_public.proofs.workers.unwatched.Goals as goal

pub returns-clause-caching : goal.returns-clause-caching
returns-clause-caching c = fresh_caching (public_at c.args.setting.now).cache _ c.in_ok-caches.ensures

pub returns-clause-by : goal.returns-clause-by
returns-clause-by c = subst (λ (k : Knows). IsRunBy (public_at c.args.setting.now) k.by) (sym c.nothing.ensures) (record { same = λ n number t known given. refl })
