use Rattle.fab_locks.proofs.Finding.{above_all, above_none}
use Rattle.fab_locks.proofs.indexed.next_number.Goals as goal

pub returns-in-Some : goal.returns-in-Some
returns-in-Some c = above_all c.args.held.now c.in-Some.last.now c.checked_add.result c.in-Some.ensures.all_up_to c.checked_add.ensures

pub returns-in-None : goal.returns-in-None
returns-in-None c = above_none c.args.held.now c.last_key_value.result c.last_key_value.ensures.variant c.in-None.is
