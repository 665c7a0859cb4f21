use Rattle.fab_public.proofs.steps.get.Goals as goal

pub returns-clause-kept : goal.returns-clause-kept
returns-clause-kept c = λ k is.
    record { roots = is.roots; workers = c.in_ok-get.ensures k.worker k.table is.workers is.table; stores = is.stores; table = is.table }
