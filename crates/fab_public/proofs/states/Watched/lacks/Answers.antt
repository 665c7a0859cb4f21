use Rattle.fab_public.specs.States.{worker_of}
use Rattle.fab_public.proofs.Asking.{lacks_by}
use Rattle.fab_public.proofs.Outcomes.{if_ok_weaker}
use Rattle.fab_public.proofs.states.Watched.lacks.Goals as goal

pub returns-clause-lacks : goal.returns-clause-lacks
returns-clause-lacks c =
    if_ok_weaker c.lacks.result
    (λ o h sight P by. lacks_by sight P c.args.worker (worker_of c.args.self.now) c.args.self.now.known.by c.tid_of-tid.result o by (c.tid_of-tid.ensures sight P) h)
    c.lacks.ensures.lacks
