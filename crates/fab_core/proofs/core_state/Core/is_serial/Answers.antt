use Rattle.fab_integrity.proofs.Once.{once}
use Rattle.fab_integrity.proofs.Runs.{ends, left_out, serial}
use Rattle.fab_core.specs.Cores.{setting}
use Rattle.fab_core.proofs.Slots.{is_evaluation, is_setting}
use Rattle.fab_core.proofs.core_state.Core.is_serial.Goals as goal

pub returns : goal.returns
returns g c =
    let m = c.args.self.now in
    let S = setting m.given in
    let given = is_setting m.given c.is_a_run.ensures.given in
    let law = is_evaluation m.given c.is_a_run.ensures.given in
    record {
      serial = λ D ex h. serial S given law D ex m.moves h c.is_a_run.ensures.run;
      ends = λ D ex h. ends S given law D ex m.moves h c.is_a_run.ensures.run;
      once = λ D. once S given D m.moves c.is_a_run.ensures.run;
      left_out = λ D ex h. left_out S given law D ex m.moves h c.is_a_run.ensures.run;
    }
