use Rattle.fab_journal.proofs.Appending.{whole_read, torn_read}
use Rattle.fab_journal.proofs.laws.torn_record_is_dropped.Goals as goal

pub returns-clause-whole : goal.returns-clause-whole
returns-clause-whole c = whole_read

pub returns-clause-torn : goal.returns-clause-torn
returns-clause-torn c = torn_read
