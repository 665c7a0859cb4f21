use Rattle.std.proofs.Common.{◌&&◌, sym, ap, ◌∙◌}
use Rattle.fab_base.specs.declared.object.Tid.{Tid}
use Rattle.fab_protocol.specs.Parts.{stores_of}
use Rattle.fab_protocol.specs.Versions.{is_tid}
use Rattle.fab_world.specs.Workers.{is_in}
use Rattle.fab_release.specs.Replay.{is_voting}
use Rattle.fab_public.specs.declared.states.Stage.{Stage}
use Rattle.fab_public.specs.Settings.{public_at, sight_at}
use Rattle.fab_public.specs.States.{stage_of, worker_of}
use Rattle.fab_public.proofs.Outcomes.{if_ok_weaker}
use Rattle.fab_public.proofs.states.Watched.is_voting.Goals as goal

pub returns-in-Votes : goal.returns-in-Votes
returns-in-Votes c =
    let sight = sight_at c.args.setting.now in
    let P = public_at c.args.setting.now in
    if_ok_weaker c.votes_with.result
    (λ votes h. h
    ∙ ap (λ (own : Tid). is_tid c.args.tid own && is_in c.args.sender (stores_of c.in-Votes.parts)) (c.tid_of.ensures sight P)
    ∙ sym (ap (λ (x : Stage). is_voting sight P c.args.worker c.args.sender c.args.tid (worker_of c.args.self.now) (stage_of x)) c.in-Votes.is))
    c.votes_with.ensures
