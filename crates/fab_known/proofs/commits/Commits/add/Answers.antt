use Rattle.std.proofs.Common.{◌++◌, ◌∷◌, [], List, map, ap, ◌∙◌}
use Rattle.std.proofs.lemmas.List.{map-append}
use Rattle.fab_release.specs.Replay as replay
use Rattle.fab_known.specs.Commits.{commitment_of}
use Rattle.fab_known.specs.declared.commits.Commitment.{Commitment}
use Rattle.fab_known.proofs.commits.Commits.add.Goals as goal

pub returns : goal.returns
returns c =
    let more : Commitment = record { tid = c.args.tid; stores = c.args.stores; leaves = c.args.leaves } in
    ap (map commitment_of) c.in_ok-push.ensures.ok
    ∙ map-append commitment_of c.self.inside.commits (more ∷ [])
    ∙ ap (λ (cs : List replay.Commitment). cs ++ commitment_of more ∷ []) c.self.view_is
