use Rattle.std.proofs.Common.{◌≡◌, ◌≤◌, ◌+◌, List, length, take, sym, subst, ap, arith}
use Rattle.std.specs.List.{AllZip}
use Rattle.std.proofs.lemmas.List.{take_all}
use Rattle.fab_tree.specs.declared.resolved.Class.{Class}
use Rattle.fab_rights.specs.declared.rights.ClassRights.{ClassRights}
use Rattle.fab_rights.specs.declared.rights.Rights.{Rights}
use Rattle.fab_places.specs.Places.{AreRights}
use Rattle.fab_places.specs.ClassRights.{IsClassRights}
use Rattle.fab_places.proofs.RightsLemmas.{one_more, rights_are}
use Rattle.fab_places.proofs.classes.rights.Goals as goal

pub loop-class-preserved : goal.loop-class-preserved
loop-class-preserved c =
    let r = c.args.start.now in
    let same : c.as_slice-class-items.result.now ≡ r.classes = c.as_slice-class-items.ensures in
    subst (λ (xs : List ClassRights). AllZip (IsClassRights r) (take (c.loop-class.class-index + 1) r.classes) xs) (sym c.in_ok-push.ensures.ok)
    (one_more r r.classes c.loop-class.classes c.loop-class.class-index c.class-item.result c.in_ok-class_rights.field-0 (omega (arith, ap length same)) (rw same at c.class-item.is) c.in_ok-class_rights.ensures c.loop-class.invariant)

pub returns : goal.returns
returns c =
    let r = c.args.start.now in
    let same : c.as_slice-class-items.result.now ≡ r.classes = c.as_slice-class-items.ensures in
    let past : length r.classes ≤ c.loop-class.class-index = omega (arith, ap length same) in
    let all : AllZip (IsClassRights r) r.classes c.loop-class.classes = subst (λ (cs : List Class). AllZip (IsClassRights r) cs c.loop-class.classes) (take_all c.loop-class.class-index r.classes past) c.loop-class.invariant in
    let are : AreRights r (record { workers = c.workers.result; stores = c.stores.result; classes = c.loop-class.classes }) = rights_are r (record { workers = c.workers.result; stores = c.stores.result; classes = c.loop-class.classes }) c.requires.numbers c.workers.ensures c.stores.ensures all in
    record { exact = subst (λ (rights : Rights). AreRights r rights) (sym c.make.ensures) are }
