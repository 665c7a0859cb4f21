use Rattle.std.proofs.Common.{◌≡◌, ℕ, List}
use Rattle.fab_sent.specs.Messages.{all_spelled}
use Rattle.fab_public.specs.Changes.{told_by}
use Rattle.fab_public.specs.declared.workers.Change.TheVariants.{End}
use Rattle.fab_public.specs.Settings.{public_at, sight_at}
use Rattle.fab_public.specs.States.{worker_of}
use Rattle.fab_public.proofs.Committing.{told_at_end}
use Rattle.fab_public.proofs.Outcomes.{if_ok_weaker, on_ok_from}
use Rattle.fab_public.proofs.states.Watched.end.Goals as goal

pub returns-clause-kept : goal.returns-clause-kept
returns-clause-kept c = λ by. on_ok_from c.prepares.result (c.in_ok-come_to_vote.ensures.seen (sight_at c.args.setting.now) (public_at c.args.setting.now) by)

pub returns-clause-sent : goal.returns-clause-sent
returns-clause-sent c = λ by.
    let sight = sight_at c.args.setting.now in
    let P = public_at c.args.setting.now in
    if_ok_weaker {Q = λ (sent : List (ℕ × List ℕ)). sent ≡ all_spelled (told_by sight P c.args.worker End (worker_of c.args.self.now))} c.prepares.result
    (λ sent h. told_at_end sight P c.args.worker (worker_of c.args.self.now) (worker_of c.come_to_vote.new.self) sent (c.in_ok-come_to_vote.ensures.seen sight P by) h)
    c.prepares.ensures
