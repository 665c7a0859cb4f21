use Rattle.std.proofs.Common.{◌≡◌, Some, subst, ◌∙◌, OnOk}
use Rattle.fab_base.specs.FlatMap.{FlatMap}
use Rattle.fab_erasure.specs.Erased.{erased}
use Rattle.fab_rights.specs.Computed.{has_bit}
use Rattle.fab_serial.proofs.Keeping.{put_is}
use Rattle.fab_trust.proofs.Keeping.{not_redone, redone}
use Rattle.fab_trust.proofs.replaying.redo.Goals as goal

pub returns-in_ok-done-in-Some : goal.returns-in_ok-done-in-Some
returns-in_ok-done-in-Some c =
    let trusts = has_bit c.args.part.now.labels in
    let keeps = has_bit c.args.part.now.classes in
    let r = c.args.start.now in
    let N = c.args.map.now in
    let commit = c.args.commit.now in
    let meant = erased trusts keeps r N c.in-Some.request.now commit.tid 1000000 c.args.given.now in
    subst (λ (m : FlatMap). OnOk c.put_within.result (c.put_within.new.map ≡ m))
    (put_is keeps c.in_ok-done-in-Some.done meant c.as_slice.result.now N c.in_ok-done-in-Some.ensures c.as_slice.ensures c.requires
    ∙ redone trusts keeps r N commit c.args.given.now (Some c.in-Some.request.now) c.in-Some.ensures.exact)
    c.put_within.ensures.exact

pub returns-in-None : goal.returns-in-None
returns-in-None c =
    not_redone (has_bit c.args.part.now.labels) (has_bit c.args.part.now.classes) c.args.start.now c.args.map.now c.args.commit.now c.args.given.now c.in-None.ensures.exact
