use Rattle.fab_public.proofs.Outcomes.{if_ok_weaker, on_ok_from}
use Rattle.fab_public.proofs.steps.vote.Goals as goal

pub returns-clause-kept : goal.returns-clause-kept
returns-clause-kept c = on_ok_from c.one.result (λ k is. record { roots = is.roots; workers = is.workers; stores = c.in_ok-vote.ensures k.store is.roots is.stores; table = is.table })

pub returns-clause-sent : goal.returns-clause-sent
returns-clause-sent c = if_ok_weaker c.one.result (λ sent h k is. h) c.one.ensures
