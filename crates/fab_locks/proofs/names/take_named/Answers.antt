use Rattle.std.proofs.Common.{◌||◌, sym}
use Rattle.fab_locks.specs.Indexes.{is_changed, is_named}
use Rattle.fab_locks.proofs.Barring.{named_are, reads_name}
use Rattle.fab_locks.proofs.Putting.{takes_as, takes_both}
use Rattle.fab_locks.proofs.names.take_named.Goals as goal

pub returns : goal.returns
returns c =
    let items = c.args.items.now in
    takes_as (λ o. reads_name items o || is_changed items o) (is_named items) (λ o. sym (named_are o items)) c.args.number c.args.names.now
    c.take_changed.new.names
    (takes_both (reads_name items) (is_changed items) c.args.number c.args.names.now c.take_each.new.names c.take_changed.new.names
    c.take_each.ensures c.take_changed.ensures)
