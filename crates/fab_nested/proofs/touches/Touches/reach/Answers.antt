use Rattle.std.proofs.Common.{[], ap, sym, ◌∙◌, arith}
use Rattle.fab_language.specs.Heaps.{touched}
use Rattle.fab_nested.specs.Logs.{but_last}
use Rattle.fab_nested.proofs.Naming.{but_last-push}
use Rattle.fab_nested.proofs.Noting.{pair_fits, pair_stays, pair_pushed, put_noted, object_fits, too_many, one_fits, objects_stay, objects_grow}
use Rattle.fab_nested.proofs.touches.Touches.reach.Goals as goal

pub returns-then-contains-clause-fits : goal.returns-then-contains-clause-fits
returns-then-contains-clause-fits c = pair_fits c.args.site c.args.oid c.contains.result c.self.inside.noted c.args.self.now [] c.self.inside.objects c.self.view_is c.self.invariant c.contains.ensures c.if-contains.true

pub returns-then-contains-clause-noted : goal.returns-then-contains-clause-noted
returns-then-contains-clause-noted c = pair_stays c.args.site c.args.oid c.contains.result c.self.inside.noted c.args.self.now [] c.self.inside.objects c.self.view_is c.self.invariant c.contains.ensures c.if-contains.true

pub invariant_of-self-then-contains-2 : goal.invariant_of-self-then-contains-2
invariant_of-self-then-contains-2 c =
    let put = pair_pushed c.args.site c.args.oid c.contains.result c.self.inside.noted c.args.self.now c.push.new.self c.self.inside.objects c.self.view_is c.self.invariant c.contains.ensures c.if-contains.false c.in_ok-push.ensures.ok in
    objects_stay c.args.site c.args.oid c.contains-2.result c.self.inside.noted c.args.self.now c.push.new.self c.self.inside.objects c.self.view_is c.self.invariant c.contains-2.ensures c.if-contains-2.true put

pub returns-then-contains-2-clause-fits : goal.returns-then-contains-2-clause-fits
returns-then-contains-2-clause-fits c = object_fits c.args.site c.args.oid c.contains-2.result c.self.inside.noted c.args.self.now [] c.self.inside.objects c.self.view_is c.self.invariant c.contains-2.ensures c.if-contains-2.true

pub returns-then-contains-2-clause-noted : goal.returns-then-contains-2-clause-noted
returns-then-contains-2-clause-noted c =
    let put = pair_pushed c.args.site c.args.oid c.contains.result c.self.inside.noted c.args.self.now c.push.new.self c.self.inside.objects c.self.view_is c.self.invariant c.contains.ensures c.if-contains.false c.in_ok-push.ensures.ok in
    put_noted c.args.site c.args.oid c.contains-2.result c.self.inside.noted c.args.self.now c.push.new.self c.self.inside.objects c.self.view_is c.self.invariant put

pub returns-then-len-ge-MAX_OBJECTS-clause-fits : goal.returns-then-len-ge-MAX_OBJECTS-clause-fits
returns-then-len-ge-MAX_OBJECTS-clause-fits c =
    too_many c.args.site c.args.oid c.contains-2.result c.self.inside.noted c.args.self.now [] c.self.inside.objects c.self.view_is c.self.invariant c.contains-2.ensures c.if-contains-2.false
    (omega (arith, c.len.ensures.count, c.if-len-ge-MAX_OBJECTS.true))

pub invariant_of-self-in-Ok : goal.invariant_of-self-in-Ok
invariant_of-self-in-Ok c =
    let put = pair_pushed c.args.site c.args.oid c.contains.result c.self.inside.noted c.args.self.now c.push-3.new.self c.self.inside.objects c.self.view_is c.self.invariant c.contains.ensures c.if-contains.false c.in-Ok.ensures.ok in
    objects_grow c.args.site c.args.oid c.contains-2.result c.self.inside.noted c.args.self.now c.push-3.new.self c.self.inside.objects c.self.view_is c.self.invariant c.push-2.new.self c.contains-2.ensures c.if-contains-2.false
    c.in_ok-push-2.ensures.ok put

pub returns-in-Ok-clause-fits : goal.returns-in-Ok-clause-fits
returns-in-Ok-clause-fits c =
    one_fits c.args.site c.args.oid c.contains-2.result c.self.inside.noted c.args.self.now [] c.self.inside.objects c.self.view_is c.self.invariant c.contains-2.ensures c.if-contains-2.false
    (omega (arith, c.len.ensures.count, c.if-len-ge-MAX_OBJECTS.false))

pub returns-in-Ok-clause-noted : goal.returns-in-Ok-clause-noted
returns-in-Ok-clause-noted c =
    let put = pair_pushed c.args.site c.args.oid c.contains.result c.self.inside.noted c.args.self.now c.push-3.new.self c.self.inside.objects c.self.view_is c.self.invariant c.contains.ensures c.if-contains.false c.in-Ok.ensures.ok in
    put_noted c.args.site c.args.oid c.contains-2.result c.self.inside.noted c.args.self.now c.push-3.new.self c.self.inside.objects c.self.view_is c.self.invariant put

pub invariant_of-self-in-Err : goal.invariant_of-self-in-Err
invariant_of-self-in-Err c =
    c.pop.ensures ∙ ap but_last c.in_ok-push-2.ensures.ok ∙ but_last-push c.self.inside.objects c.args.oid ∙ c.self.invariant ∙ ap touched (sym c.in-Err.ensures.err)
