use Rattle.fab_meaning.proofs.act.assignment.Goals as goal

pub returns-in-New-clause-gives : goal.returns-in-New-clause-gives
returns-in-New-clause-gives c = rw c.in-New.is c.making.ensures.gives
