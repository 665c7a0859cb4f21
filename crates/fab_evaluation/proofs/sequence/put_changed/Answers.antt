use Rattle.std.proofs.Common.{sym, ap, ◌∙◌}
use Rattle.fab_base.specs.FlatMap.{put}
use Rattle.fab_map.proofs.Rows.{put_more}
use Rattle.fab_evaluation.proofs.sequence.put_changed.Goals as goal

pub changed-preserved : goal.changed-preserved
changed-preserved c =
    c.in_ok-put.ensures.ok
    ∙ ap (put c.in-Some.oid c.in-Some.object) c.changed.invariant
    ∙ sym (put_more c.changed.yielded (c.in-Some.oid, c.in-Some.object) c.args.map.now)
