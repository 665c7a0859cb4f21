use Rattle.fab_failures.proofs.Broken.{kept}
use Rattle.fab_failures.proofs.laws.failures_keep_the_run.Goals as goal

pub returns-clause-enabled : goal.returns-clause-enabled
returns-clause-enabled c = λ S w front rest e others may. (kept S front rest e w others may).enabled_too

pub returns-clause-logged : goal.returns-clause-logged
returns-clause-logged c = λ S w front rest e others may. (kept S front rest e w others may).logged_same

pub returns-clause-world : goal.returns-clause-world
returns-clause-world c = λ S w front rest e others may. (kept S front rest e w others may).broken
