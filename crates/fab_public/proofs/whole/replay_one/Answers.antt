use Rattle.std.proofs.lemmas.Result.{on_ok_weaker}
use Rattle.fab_public.specs.Settings.{public_at, sight_at}
use Rattle.fab_public.proofs.whole.replay_one.Goals as goal

pub returns : goal.returns
returns c =
    on_ok_weaker c.tell.result
    (λ h k is. (c.in_ok-told.ensures.kept k is, h (sight_at c.args.setting.now) (public_at c.args.setting.now) k (c.in_ok-told.ensures.sent k is)))
    c.tell.ensures
