-- A core's run is isolated.
use Rattle.std.specs.Prelude.{List}
use Rattle.std.proofs.Common.{subst}
use Rattle.fab_language.specs.Numbers.{resolved}
use Rattle.fab_tree.specs.declared.resolved.Resolved.{Resolved}
use Rattle.fab_world.specs.Machine.{Move}
use Rattle.fab_world.specs.Serial.{IsRun}
use Rattle.fab_node.specs.Standing.{GivenModel, IsGiven}
use Rattle.fab_core.specs.Cores.{setting}
use Rattle.fab_isolation.specs.Law.{BundlesAreIsolated}
use Rattle.fab_isolation.proofs.Posts.{post_few}
use Rattle.fab_replay.specs.Isolated.{IsIsolated}

pub isolated_run : BundlesAreIsolated → (g : GivenModel) → IsGiven g → (moves : List Move) → IsRun (setting g) moves → IsIsolated g moves
isolated_run law g given moves run = subst (λ (r : Resolved). At r) given.program here run
  where
    with_program : Resolved → GivenModel
    with_program r = record { program = r; rights = g.rights; roots = g.roots }

    At : Resolved → Type 0
    At r = IsRun (setting (with_program r)) moves → IsIsolated (with_program r) moves

    here : At (resolved given.start)
    here ran nodes sees shows n d h out into =
        law given.start g.rights nodes sees shows (record { accepted = given.accepted; hostile = h.hostile; seen = h.seen }) moves n d ran
        (post_few given.start g.rights given.accepted moves ran) out into
