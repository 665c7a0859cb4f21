use Rattle.std.proofs.Common.{Option, sym, ap, ◌∙◌}
use Rattle.std.specs.Option.{option_copied, option_map_or}
use Rattle.fab_release.specs.Replay.{leaves_at}
use Rattle.fab_public.specs.declared.states.Watched.{Watched}
use Rattle.fab_public.specs.Settings.{public_at, sight_at}
use Rattle.fab_public.specs.States.{unwatched, worker_of}
use Rattle.fab_public.proofs.Outcomes.{if_ok_weaker}
use Rattle.fab_public.proofs.steps.left_at.Goals as goal

pub returns-in-Some : goal.returns-in-Some
returns-in-Some c =
    let sight = sight_at c.args.setting.now in
    let P = public_at c.args.setting.now in
    if_ok_weaker c.leaves_at.result
    (λ rows h. h sight P
    ∙ sym (ap (λ (o : Option Watched). leaves_at sight P c.args.store c.args.tid (option_map_or worker_of o unwatched).commits) (sym c.watched_at.ensures ∙ ap option_copied c.in-Some.is)))
    c.leaves_at.ensures

pub returns-in-None : goal.returns-in-None
returns-in-None c =
    let sight = sight_at c.args.setting.now in
    let P = public_at c.args.setting.now in
    c.new.ensures
    ∙ sym (ap (λ (o : Option Watched). leaves_at sight P c.args.store c.args.tid (option_map_or worker_of o unwatched).commits) (sym c.watched_at.ensures ∙ ap option_copied c.in-None.is))
