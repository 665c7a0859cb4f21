use Rattle.fab_journal.proofs.Appending.{journal-push}
use Rattle.fab_journal.proofs.Journals.{version_stays, AreEntries-push}
use Rattle.fab_journal.proofs.laws.one_record_more.Goals as goal
use Rattle.fab_base.specs.JournalSpelling.{journal_version}

pub returns-clause-spelled : goal.returns-clause-spelled
returns-clause-spelled c = journal-push

pub returns-clause-fits : goal.returns-clause-fits
returns-clause-fits c = AreEntries-push journal_version

pub returns-clause-version : goal.returns-clause-version
returns-clause-version c = version_stays
