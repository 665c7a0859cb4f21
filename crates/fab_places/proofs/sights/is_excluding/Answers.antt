use Rattle.std.proofs.Common.{ℕ}
use Rattle.std.proofs.lemmas.Bool.{eqb-true, eq-eqb}
use Rattle.fab_labelling.specs.Readers.{IsNode, IsWriter, label_at, principal_of}
use Rattle.fab_places.proofs.Bits.{misses}
use Rattle.fab_places.proofs.sights.is_excluding.Goals as goal

pub returns : goal.returns
returns c =
    let r = c.args.start.now in
    let writes = λ (n : ℕ). IsWriter c.args.acts.now (label_at r c.args.label) (principal_of r n) in
    let none = misses (λ (n : ℕ). IsNode r n) writes c.args.nodes c.influencing.result c.ranges.nodes.fits c.influencing.ensures in
    (λ t. none.0 (eqb-true _ _ t), λ excludes. eq-eqb _ _ (none.1 excludes))
