use Rattle.fab_outcomes.proofs.Sessions.{of_sessions}
use Rattle.fab_outcomes.proofs.laws.outcomes_are_of_sessions.Goals as goal

pub returns : goal.returns
returns c = of_sessions
