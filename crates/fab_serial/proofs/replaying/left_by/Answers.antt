use Rattle.std.proofs.Common.{[], refl, ap, ◌∙◌}
use Rattle.fab_base.specs.FlatMap.{put_all}
use Rattle.fab_rights.specs.Computed.{has_bit}
use Rattle.fab_world.specs.Serial.{within}
use Rattle.fab_serial.proofs.Steps.{found_kept, nothing_kept}
use Rattle.fab_serial.proofs.replaying.left_by.Goals as goal

pub returns-in_ok-put_within-in-Some : goal.returns-in_ok-put_within-in-Some
returns-in_ok-put_within-in-Some c =
    let ex = has_bit c.args.classes in
    c.in_ok-put_within-in-Some.ensures.exact
    ∙ ap (put_all (within ex c.as_slice.result.now)) c.new-left.ensures
    ∙ found_kept c.args.start.now ex c.args.map.now c.args.commit.now c.in-Some.request.now c.in_ok-done-in-Some.done c.as_slice.result.now []
    c.in-Some.ensures.exact c.in_ok-done-in-Some.ensures c.as_slice.ensures refl

pub returns-in-None : goal.returns-in-None
returns-in-None c =
    c.new-left.ensures ∙ nothing_kept c.args.start.now (has_bit c.args.classes) c.args.map.now c.args.commit.now [] c.in-None.ensures.exact
