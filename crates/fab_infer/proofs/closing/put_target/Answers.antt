use Rattle.fab_infer.proofs.Targets.{put_at}
use Rattle.fab_infer.proofs.closing.put_target.Goals as goal

pub returns-in_ok-push-clause-lists : goal.returns-in_ok-push-clause-lists
returns-in_ok-push-clause-lists c = λ h inside.
    put_at c.args.targets.now c.args.hole c.args.target h c.push.new.self c.if-hole-targets.true c.index-targets-hole.result c.in_ok-push.ensures.ok inside
