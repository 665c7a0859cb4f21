use Rattle.std.proofs.Common.{List, subst, sym}
use Rattle.fab_base.specs.declared.object.Oid.{Oid}
use Rattle.fab_base.specs.FlatMap.{is_same}
use Rattle.fab_locks.specs.Indexes.{Keeps, Puts, any_named}
use Rattle.fab_locks.proofs.Putting.{PutsAll, none_left, puts_at_first, puts_end, puts_next, puts_stop, puts_keep}
use Rattle.fab_locks.proofs.names.put_each.Goals as goal

pub each-init : goal.each-init
each-init g c =
    let all = any_named g.T.Named.name_of c.args.list.now in
    subst (λ (xs : List g.row.T.Denot). PutsAll (any_named g.T.Named.name_of xs) all c.args.number c.args.names.now c.args.names.now) (sym c.as_slice-rest.ensures)
    (puts_at_first all c.args.number c.args.names.now)

pub each-preserved : goal.each-preserved
each-preserved g c =
    let name_of = g.T.Named.name_of in
    puts_next name_of c.in-Some.first.now c.each.rest.now c.in-Some.others.now c.in-Some.ensures.cases.0 (any_named name_of c.args.list.now) c.args.number
    c.args.names.now c.each.names c.put_name.new.names c.each.invariant
    (subst (λ (o : Oid). Puts (is_same o) c.args.number c.each.names c.put_name.new.names) c.name.ensures c.in_ok-put_name.ensures.ok)

pub returns-in_err-put_name-clause-kept : goal.returns-in_err-put_name-clause-kept
returns-in_err-put_name-clause-kept g c =
    let name_of = g.T.Named.name_of in
    puts_stop name_of c.in-Some.first.now c.each.rest.now c.in-Some.others.now c.in-Some.ensures.cases.0 (any_named name_of c.args.list.now) c.args.number
    c.args.names.now c.each.names c.put_name.new.names c.each.invariant
    (subst (λ (o : Oid). Keeps (is_same o) c.args.number c.each.names c.put_name.new.names) c.name.ensures c.in_err-put_name.ensures.kept)

pub returns-clause-ok : goal.returns-clause-ok
returns-clause-ok g c =
    puts_end g.T.Named.name_of c.each.rest.now (any_named g.T.Named.name_of c.args.list.now) c.args.number c.args.names.now c.each.names
    (none_left c.each.rest.now c.in_default.ensures.cases) c.each.invariant

pub returns-clause-kept : goal.returns-clause-kept
returns-clause-kept g c =
    puts_keep (any_named g.T.Named.name_of c.args.list.now) c.args.number c.args.names.now c.each.names
    (puts_end g.T.Named.name_of c.each.rest.now (any_named g.T.Named.name_of c.args.list.now) c.args.number c.args.names.now c.each.names
    (none_left c.each.rest.now c.in_default.ensures.cases) c.each.invariant)
