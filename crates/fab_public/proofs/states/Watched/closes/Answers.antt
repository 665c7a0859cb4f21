use Rattle.std.proofs.Common.{if◌then◌else◌, sym, ap, ◌∙◌}
use Rattle.fab_base.specs.declared.message.Message.TheVariants.{Abort, Commit}
use Rattle.fab_base.specs.declared.object.Tid.{Tid}
use Rattle.fab_release.specs.Replay.{closes}
use Rattle.fab_sent.specs.Messages.{all_spelled}
use Rattle.fab_world.specs.Workers.{to_all}
use Rattle.fab_public.specs.declared.states.Stage.{Stage}
use Rattle.fab_public.specs.Settings.{public_at, sight_at}
use Rattle.fab_public.specs.States.{stage_of, worker_of}
use Rattle.fab_public.proofs.Outcomes.{if_ok_weaker}
use Rattle.fab_public.proofs.states.Watched.closes.Goals as goal

pub returns-in_ok-stores-in-Votes : goal.returns-in_ok-stores-in-Votes
returns-in_ok-stores-in-Votes c =
    let sight = sight_at c.args.setting.now in
    let P = public_at c.args.setting.now in
    let message = c.closing-message.ensures ∙ ap (λ (t : Tid). if c.args.commit then Commit t else Abort t) (c.tid_of-tid.ensures sight P) in
    if_ok_weaker c.to_all.result
    (λ sent h. h
    ∙ (λ j. all_spelled (to_all ((c.as_slice.ensures ∙ c.in_ok-stores-in-Votes.ensures) j) (message j)))
    ∙ sym (ap (λ (x : Stage). all_spelled (closes sight P c.args.worker c.args.commit (stage_of x) (worker_of c.args.self.now))) c.in-Votes.is))
    c.to_all.ensures
