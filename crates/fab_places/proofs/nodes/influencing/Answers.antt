use Rattle.fab_labelling.specs.Readers.{label_at}
use Rattle.fab_places.proofs.NodeLemmas.{nodes_within}
use Rattle.fab_places.proofs.nodes.influencing.Goals as goal

pub returns : goal.returns
returns c =
    nodes_within c.args.start.now c.args.acts.now (label_at c.args.start.now c.args.label).integ c.all_within.result c.nodes_among.result c.requires.of
    (λ p. rw c.integ_at.ensures at (c.all_within.ensures p)) c.nodes_among.ensures
