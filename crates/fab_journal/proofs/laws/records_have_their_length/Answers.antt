use Rattle.fab_journal.proofs.Lengths.{length-record}
use Rattle.fab_journal.proofs.laws.records_have_their_length.Goals as goal

pub returns : goal.returns
returns c = length-record
