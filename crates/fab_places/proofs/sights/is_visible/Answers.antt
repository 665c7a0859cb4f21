use Rattle.std.proofs.Common.{ℕ, not, ap}
use Rattle.std.proofs.lemmas.Bool.{both_ways, not-true, eq-eqb, ne_eqb}
use Rattle.fab_labelling.specs.Readers.{IsNode, IsReader, label_at, principal_of}
use Rattle.fab_places.proofs.Bits.{meets}
use Rattle.fab_places.proofs.sights.is_visible.Goals as goal

pub returns : goal.returns
returns c =
    let r = c.args.start.now in
    let reads = λ (n : ℕ). IsReader c.args.acts.now (label_at r c.args.label) (principal_of r n) in
    let some = meets (λ (n : ℕ). IsNode r n) reads c.args.nodes c.reading.result c.ranges.nodes.fits c.reading.ensures in
    (λ t. some.0 (λ none. both_ways _ (not-true _ t) (eq-eqb _ _ none)), λ visible. ap not (ne_eqb _ _ (some.1 visible)))
