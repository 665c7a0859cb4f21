use Rattle.std.proofs.Common.{◌||◌, sym}
use Rattle.std.proofs.lemmas.Result.{on_ok_weaker}
use Rattle.fab_locks.specs.Indexes.{is_changed}
use Rattle.fab_locks.proofs.Barring.{changed_are, creates_name, writes_name}
use Rattle.fab_locks.proofs.Putting.{keeps_as, keeps_both, keeps_first, puts_as, puts_both}
use Rattle.fab_locks.proofs.names.put_changed.Goals as goal

pub returns-in_err-put_each-clause-kept : goal.returns-in_err-put_each-clause-kept
returns-in_err-put_each-clause-kept c =
    let items = c.args.items.now in
    keeps_as (λ o. writes_name items o || creates_name items o) (is_changed items) (λ o. sym (changed_are o items)) c.args.number c.args.names.now
    c.put_each.new.names
    (keeps_first (writes_name items) (creates_name items) c.args.number c.args.names.now c.put_each.new.names c.in_err-put_each.ensures.kept)

pub returns-clause-ok : goal.returns-clause-ok
returns-clause-ok c =
    let items = c.args.items.now in
    on_ok_weaker c.put_each-2.result
    (λ h. puts_as (λ o. writes_name items o || creates_name items o) (is_changed items) (λ o. sym (changed_are o items)) c.args.number c.args.names.now
    c.put_each-2.new.names
    (puts_both (writes_name items) (creates_name items) c.args.number c.args.names.now c.put_each.new.names c.put_each-2.new.names c.in_ok-put_each.ensures.ok h))
    c.put_each-2.ensures.ok

pub returns-clause-kept : goal.returns-clause-kept
returns-clause-kept c =
    let items = c.args.items.now in
    keeps_as (λ o. writes_name items o || creates_name items o) (is_changed items) (λ o. sym (changed_are o items)) c.args.number c.args.names.now
    c.put_each-2.new.names
    (keeps_both (writes_name items) (creates_name items) c.args.number c.args.names.now c.put_each.new.names c.put_each-2.new.names
    c.in_ok-put_each.ensures.kept c.put_each-2.ensures.kept)
