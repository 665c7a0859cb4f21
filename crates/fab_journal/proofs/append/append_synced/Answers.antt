use Rattle.std.proofs.Common.{length, rules}
use Rattle.std.proofs.lemmas.List.{take_all}
use Rattle.fab_journal.proofs.append.append_synced.Goals as goal

-- all of the bytes are there
pub returns-in-Err-clause-bytes : goal.returns-in-Err-clause-bytes
returns-in-Err-clause-bytes g c = (length c.args.bytes.now, search (rules, take_all))
