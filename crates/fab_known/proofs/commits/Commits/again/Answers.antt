use Rattle.std.proofs.Common.{◌≡◌, ℕ, IfOk, List, map, ap, subst, ◌∙◌}
use Rattle.std.specs.List.{flat_map}
use Rattle.fab_base.specs.declared.message.Message.TheVariants.{Commit}
use Rattle.fab_release.specs.Replay as replay
use Rattle.fab_sent.specs.Messages.{all_spelled}
use Rattle.fab_world.specs.Workers.{to_all}
use Rattle.fab_known.specs.Commits.{commitment_of}
use Rattle.fab_known.proofs.commits.Commits.again.Goals as goal

pub returns : goal.returns
returns c =
    subst (λ (cs : List replay.Commitment). IfOk c.again.result (λ (sent : List (ℕ × List ℕ)). sent ≡ all_spelled (flat_map (λ (x : replay.Commitment). to_all x.stores (Commit x.tid)) cs)))
    (ap (map commitment_of) c.as_slice.ensures ∙ c.self.view_is) c.again.ensures
