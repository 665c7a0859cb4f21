use Rattle.fab_base.specs.FlatMap.{is_same}
use Rattle.fab_locks.proofs.Putting.{keep_same, put_one, puts_keep}
use Rattle.fab_locks.proofs.names.put_name.Goals as goal

pub returns-in_err-insert-clause-kept : goal.returns-in_err-insert-clause-kept
returns-in_err-insert-clause-kept c =
    keep_same (is_same c.args.oid) c.args.number c.args.names.now c.insert.new.self c.in_err-insert.ensures.err

pub returns-clause-ok : goal.returns-clause-ok
returns-clause-ok c = put_one c.args.oid c.args.number c.args.names.now c.insert.new.self c.in_ok-insert.ensures.updates.0

pub returns-clause-kept : goal.returns-clause-kept
returns-clause-kept c =
    puts_keep (is_same c.args.oid) c.args.number c.args.names.now c.insert.new.self
    (put_one c.args.oid c.args.number c.args.names.now c.insert.new.self c.in_ok-insert.ensures.updates.0)
