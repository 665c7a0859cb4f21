use Rattle.fab_integrity.proofs.Live.{live}
use Rattle.fab_integrity.proofs.Over.{over_is_done}
use Rattle.fab_settings.specs.Settings.{lines_of}
use Rattle.fab_core.specs.Cores.{setting}
use Rattle.fab_core.proofs.Slots.{are_posts, is_evaluation, is_setting}
use Rattle.fab_core.proofs.core_state.Core.goes_on.Goals as goal

pub returns : goal.returns
returns g c =
    let m = c.args.self.now in
    let S = setting m.given in
    let given = is_setting m.given c.is_a_run.ensures.given in
    let law = is_evaluation m.given c.is_a_run.ensures.given in
    let own = are_posts m.given c.is_a_run.ensures.given in
    record {
      live = λ n wait. live S given law own m.moves n c.is_a_run.ensures.run wait;
      left = over_is_done S given law own (lines_of m.given.program) m.moves c.is_a_run.ensures.run;
    }
