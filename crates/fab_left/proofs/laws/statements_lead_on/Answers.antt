use Rattle.fab_left.proofs.Acting as acting
use Rattle.fab_left.proofs.ErasedActing as erased_acting
use Rattle.fab_left.proofs.laws.statements_lead_on.Goals as goal

pub returns : goal.returns
returns c = record { plain = acting.statement_is; erased = erased_acting.statement_is }
