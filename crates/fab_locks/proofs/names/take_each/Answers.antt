use Rattle.std.proofs.Common.{List, subst, sym}
use Rattle.fab_base.specs.declared.object.Oid.{Oid}
use Rattle.fab_base.specs.FlatMap.{is_same}
use Rattle.fab_locks.specs.Indexes.{Takes, any_named}
use Rattle.fab_locks.proofs.Putting.{TakesAll, none_left, takes_at_first, takes_end, takes_next}
use Rattle.fab_locks.proofs.names.take_each.Goals as goal

pub each-init : goal.each-init
each-init g c =
    let all = any_named g.T.Named.name_of c.args.list.now in
    subst (λ (xs : List g.row.T.Denot). TakesAll (any_named g.T.Named.name_of xs) all c.args.number c.args.names.now c.args.names.now) (sym c.as_slice-rest.ensures)
    (takes_at_first all c.args.number c.args.names.now)

pub each-preserved : goal.each-preserved
each-preserved g c =
    let name_of = g.T.Named.name_of in
    takes_next name_of c.in-Some.first.now c.each.rest.now c.in-Some.others.now c.in-Some.ensures.cases.0 (any_named name_of c.args.list.now) c.args.number
    c.args.names.now c.each.names c.take_name.new.names c.each.invariant
    (subst (λ (o : Oid). Takes (is_same o) c.args.number c.each.names c.take_name.new.names) c.name.ensures c.take_name.ensures)

pub returns : goal.returns
returns g c =
    takes_end g.T.Named.name_of c.each.rest.now (any_named g.T.Named.name_of c.args.list.now) c.args.number c.args.names.now c.each.names
    (none_left c.each.rest.now c.in_default.ensures.cases) c.each.invariant
