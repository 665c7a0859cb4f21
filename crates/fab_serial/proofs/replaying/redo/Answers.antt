use Rattle.std.proofs.Common.{◌≡◌, subst, OnOk}
use Rattle.fab_base.specs.FlatMap.{FlatMap}
use Rattle.fab_rights.specs.Computed.{has_bit}
use Rattle.fab_serial.proofs.Steps.{found_behind, none_behind}
use Rattle.fab_serial.proofs.replaying.redo.Goals as goal

pub returns-in_ok-done-in-Some : goal.returns-in_ok-done-in-Some
returns-in_ok-done-in-Some c =
    subst (λ (m : FlatMap). OnOk c.put_within.result (c.put_within.new.map ≡ m))
    (found_behind c.args.start.now (has_bit c.args.classes) c.args.map.now c.args.commit.now c.in-Some.request.now c.in_ok-done-in-Some.done c.as_slice.result.now
    c.in-Some.ensures.exact c.in_ok-done-in-Some.ensures c.as_slice.ensures c.rows.ensures.ascending)
    c.put_within.ensures.exact

pub returns-in-None : goal.returns-in-None
returns-in-None c = none_behind c.args.start.now (has_bit c.args.classes) c.args.map.now c.args.commit.now c.in-None.ensures.exact
