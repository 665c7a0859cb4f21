use Rattle.std.proofs.Common.{◌||◌, sym}
use Rattle.std.proofs.lemmas.Result.{on_ok_weaker}
use Rattle.fab_locks.specs.Indexes.{is_changed, is_named}
use Rattle.fab_locks.proofs.Barring.{named_are, reads_name}
use Rattle.fab_locks.proofs.Putting.{keeps_as, keeps_both, keeps_first, puts_as, puts_both}
use Rattle.fab_locks.proofs.names.put_named.Goals as goal

pub returns-in_err-put_each-clause-kept : goal.returns-in_err-put_each-clause-kept
returns-in_err-put_each-clause-kept c =
    let items = c.args.items.now in
    keeps_as (λ o. reads_name items o || is_changed items o) (is_named items) (λ o. sym (named_are o items)) c.args.number c.args.names.now
    c.put_each.new.names
    (keeps_first (reads_name items) (is_changed items) c.args.number c.args.names.now c.put_each.new.names c.in_err-put_each.ensures.kept)

pub returns-clause-ok : goal.returns-clause-ok
returns-clause-ok c =
    let items = c.args.items.now in
    on_ok_weaker c.put_changed.result
    (λ h. puts_as (λ o. reads_name items o || is_changed items o) (is_named items) (λ o. sym (named_are o items)) c.args.number c.args.names.now
    c.put_changed.new.names
    (puts_both (reads_name items) (is_changed items) c.args.number c.args.names.now c.put_each.new.names c.put_changed.new.names c.in_ok-put_each.ensures.ok h))
    c.put_changed.ensures.ok

pub returns-clause-kept : goal.returns-clause-kept
returns-clause-kept c =
    let items = c.args.items.now in
    keeps_as (λ o. reads_name items o || is_changed items o) (is_named items) (λ o. sym (named_are o items)) c.args.number c.args.names.now
    c.put_changed.new.names
    (keeps_both (reads_name items) (is_changed items) c.args.number c.args.names.now c.put_each.new.names c.put_changed.new.names
    c.in_ok-put_each.ensures.kept c.put_changed.ensures.kept)
