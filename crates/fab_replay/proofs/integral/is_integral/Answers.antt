use Rattle.fab_language.specs.Flows.{delegations_of}
use Rattle.fab_rights.specs.Computed.{has_bit}
use Rattle.fab_replay.proofs.Excluded.{excludes}
use Rattle.fab_replay.proofs.integral.is_integral.Goals as goal

pub returns : goal.returns
returns g c nodes ex h =
    let m = c.args.core.now in
    let law = c.outsiders_write_and_hold_nothing.ensures in
    let d = delegations_of m.given.program in
    let out = excludes m.given c.is_a_run.ensures.given nodes ex h (λ n k. law.written m.given.program d nodes k n) (λ n k. law.held m.given.program d nodes k n) in
    record {
      held = c.is_serial.ensures.serial (has_bit nodes) ex out;
      ends = c.is_serial.ensures.ends (has_bit nodes) ex out;
      once = c.is_serial.ensures.once (has_bit nodes);
      left_out = c.is_serial.ensures.left_out (has_bit nodes) ex out;
    }
