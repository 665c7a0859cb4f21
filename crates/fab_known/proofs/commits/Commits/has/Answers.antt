use Rattle.std.proofs.Common.{Bool, List, ◌&&◌, sym, ap, ◌∙◌}
use Rattle.std.specs.List.{list_any}
use Rattle.fab_base.proofs.Lists.{any_map}
use Rattle.fab_protocol.specs.Versions.{is_tid}
use Rattle.fab_release.specs.Replay as replay
use Rattle.fab_world.specs.Workers.{is_in}
use Rattle.fab_known.specs.Commits.{commitment_of}
use Rattle.fab_known.specs.declared.commits.Commitment.{Commitment}
use Rattle.fab_known.proofs.commits.Commits.has.Goals as goal

pub returns : goal.returns
returns c =
    let is : replay.Commitment → Bool = λ x. is_tid x.tid c.args.tid && is_in c.args.store x.stores in
    c.has_commit_at.ensures
    ∙ ap (λ (cs : List Commitment). list_any (λ x. is_tid x.tid c.args.tid && is_in c.args.store x.stores) cs) c.as_slice.ensures
    ∙ sym (any_map is commitment_of c.self.inside.commits)
    ∙ ap (list_any is) c.self.view_is
