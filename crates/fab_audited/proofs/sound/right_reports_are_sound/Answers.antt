use Rattle.std.proofs.Common.{refl}
use Rattle.fab_core.specs.Cores.{setting}
use Rattle.fab_core.specs.Starts.{given_by}
use Rattle.fab_language.specs.Flows.{delegations_of}
use Rattle.fab_language.specs.Numbers.{resolved}
use Rattle.fab_node.specs.Standing.{IsGiven}
use Rattle.fab_rights.specs.Computed.{has_bit}
use Rattle.fab_replay.proofs.Excluded.{excludes}
use Rattle.fab_replay.proofs.Isolating.{isolated_run}
use Rattle.fab_replay.proofs.Trusting.{trusted_run}
use Rattle.fab_audited.proofs.sound.right_reports_are_sound.Goals as goal

pub returns : goal.returns
returns c s rights report accepted x =
    let g = given_by (resolved s) rights in
    let given : IsGiven g = record { start = s; program = refl; accepted = accepted; roots = refl } in
    let law = c.outsiders_write_and_hold_nothing.ensures in
    let d = delegations_of (resolved s) in
    let serial = c.bundles_are_serial.ensures in
    record {
      integral = λ nodes ex h.
          let out = excludes g given nodes ex h (λ n k. law.written (resolved s) d nodes k n) (λ n k. law.held (resolved s) d nodes k n) in
          record {
            held = serial.serial s rights accepted (has_bit nodes) ex x.moves out x.run;
            ends = serial.ends s rights accepted (has_bit nodes) ex x.moves out x.run;
            once = serial.once s rights accepted (has_bit nodes) x.moves x.run;
            left_out = serial.left_out s rights accepted (has_bit nodes) ex x.moves out x.run;
          };
      isolated = isolated_run c.bundles_are_isolated.ensures g given x.moves x.run;
      trusted = trusted_run c.trusted_replay_agrees.ensures.agrees c.trusted_replay_agrees.ensures.outside c.robust_values_trusted.ensures g given x.moves x.run;
    }
