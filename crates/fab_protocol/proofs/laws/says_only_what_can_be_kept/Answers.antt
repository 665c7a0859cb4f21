use Rattle.fab_protocol.proofs.Kept.{says_can_keep}
use Rattle.fab_protocol.proofs.laws.says_only_what_can_be_kept.Goals as goal

pub returns : goal.returns
returns c = λ rights s n message shelf entry. says_can_keep rights s shelf entry n message
