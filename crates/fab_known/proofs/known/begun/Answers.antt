use Rattle.std.proofs.Common.{◌≡◌, Some, sym, ap, ◌∙◌, subst}
use Rattle.std.specs.Option.{option_copied}
use Rattle.fab_base.specs.FlatMap.{FlatMap}
use Rattle.fab_settings.specs.Settings.{request_at}
use Rattle.fab_known.specs.Knowing.{Runner}
use Rattle.fab_known.specs.Lasts.{PausesSo, job_over}
use Rattle.fab_known.proofs.Knowing.{turned}
use Rattle.fab_known.proofs.known.begun.Goals as goal

pub returns : goal.returns
returns c =
    let r : Runner = record { program = c.args.part.now; seen = c.args.seen } in
    let request = c.in-Some.request.now in
    let asked : request_at c.args.part.now c.args.tid.worker c.args.number ≡ Some request = sym c.request_at.ensures.exact ∙ ap option_copied c.in-Some.is in
    turned r c.args.given.now c.args.number c.args.tid c.args.rows.now request asked c.pause_of.result
    (subst (λ (k : FlatMap). PausesSo (record (job_over r c.args.rows.now c.args.given.now request c.args.tid) { known = k }) c.pause_of.result) c.in_ok-known.ensures
    (c.pause_of.ensures (record (job_over r c.args.rows.now c.args.given.now request c.args.tid) { known = c.in_ok-known.known }) c.in_ok-turn.ensures))
