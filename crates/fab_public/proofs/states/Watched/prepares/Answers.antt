use Rattle.std.proofs.Common.{ℕ, map, sym, ap, ◌∙◌}
use Rattle.fab_base.specs.declared.message.Message.TheVariants.{Prepare}
use Rattle.fab_protocol.specs.Parts.{items_at}
use Rattle.fab_release.specs.Replay.{prepares}
use Rattle.fab_sent.specs.Messages.{all_spelled}
use Rattle.fab_public.specs.declared.states.Stage.{Stage}
use Rattle.fab_public.specs.Settings.{public_at, sight_at}
use Rattle.fab_public.specs.States.{stage_of, worker_of}
use Rattle.fab_public.proofs.Outcomes.{if_ok_weaker}
use Rattle.fab_public.proofs.states.Watched.prepares.Goals as goal

pub returns-in_ok-stores-in-Votes : goal.returns-in_ok-stores-in-Votes
returns-in_ok-stores-in-Votes c =
    let sight = sight_at c.args.setting.now in
    let P = public_at c.args.setting.now in
    if_ok_weaker c.prepares.result
    (λ sent h. h
    ∙ (λ j. all_spelled (map (λ (s : ℕ). (s, Prepare (c.tid_of-tid.ensures sight P j) (items_at c.in-Votes.parts s))) ((c.as_slice.ensures ∙ c.in_ok-stores-in-Votes.ensures) j)))
    ∙ sym (ap (λ (x : Stage). all_spelled (prepares sight P c.args.worker (stage_of x) (worker_of c.args.self.now))) c.in-Votes.is))
    c.prepares.ensures
