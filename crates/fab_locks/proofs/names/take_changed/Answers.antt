use Rattle.std.proofs.Common.{◌||◌, sym}
use Rattle.fab_locks.specs.Indexes.{is_changed}
use Rattle.fab_locks.proofs.Barring.{changed_are, creates_name, writes_name}
use Rattle.fab_locks.proofs.Putting.{takes_as, takes_both}
use Rattle.fab_locks.proofs.names.take_changed.Goals as goal

pub returns : goal.returns
returns c =
    let items = c.args.items.now in
    takes_as (λ o. writes_name items o || creates_name items o) (is_changed items) (λ o. sym (changed_are o items)) c.args.number c.args.names.now
    c.take_each-2.new.names
    (takes_both (writes_name items) (creates_name items) c.args.number c.args.names.now c.take_each.new.names c.take_each-2.new.names
    c.take_each.ensures c.take_each-2.ensures)
