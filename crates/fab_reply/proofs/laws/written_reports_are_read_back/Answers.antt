use Rattle.fab_reply.proofs.Printed.{are_read_back}
use Rattle.fab_reply.proofs.laws.written_reports_are_read_back.Goals as goal

pub returns : goal.returns
returns c = are_read_back
