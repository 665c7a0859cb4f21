use Rattle.std.proofs.lemmas.Result.{on_ok_weaker}
use Rattle.fab_public.proofs.Outcomes.{if_ok_weaker}
use Rattle.fab_public.proofs.steps.change_worker.Goals as goal

pub returns-clause-kept : goal.returns-clause-kept
returns-clause-kept c =
    on_ok_weaker c.make_change.result (λ h k is. record { roots = is.roots; workers = h k.worker is.workers; stores = is.stores; table = is.table }) c.make_change.ensures.kept

pub returns-clause-sent : goal.returns-clause-sent
returns-clause-sent c = if_ok_weaker c.make_change.result (λ sent h k is. h k.worker is.workers) c.make_change.ensures.sent
