use Rattle.std.proofs.Common.{◌≡◌, IfOk, List, map, ap, subst, ◌∙◌}
use Rattle.fab_protocol.specs.Versions.{Rows}
use Rattle.fab_release.specs.Replay as replay
use Rattle.fab_release.specs.Sights.{Public, Sight}
use Rattle.fab_known.specs.Commits.{commitment_of}
use Rattle.fab_known.proofs.commits.Commits.leaves_at.Goals as goal

pub returns : goal.returns
returns c =
    subst (λ (cs : List replay.Commitment). IfOk c.leaves_at.result (λ (rows : Rows). (sight : Sight) (P : Public) → rows ≡ replay.leaves_at sight P c.args.store c.args.tid cs))
    (ap (map commitment_of) c.as_slice.ensures ∙ c.self.view_is) c.leaves_at.ensures
