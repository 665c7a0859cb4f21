use Rattle.fab_reading.proofs.Rules.{never}
use Rattle.fab_parser.proofs.RightRules.{no_call}
use Rattle.fab_parser.proofs.rights.begins_call.Goals as goal

pub returns-in-None-behind : goal.returns-in-None-behind
returns-in-None-behind c = (λ h. absurd (never h), λ b. absurd (no_call c.in-Some.ensures c.in-None-behind.ensures b))
