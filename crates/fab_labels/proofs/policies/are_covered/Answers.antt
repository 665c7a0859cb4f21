use Rattle.std.proofs.Common.{Any}
use Rattle.std.proofs.lemmas.Bool.{iff_false}
use Rattle.fab_base.specs.Labels.{Covers}
use Rattle.fab_labels.proofs.Searches.{no, All-not, AllWithin-item}
use Rattle.fab_labels.proofs.policies.are_covered.Goals as goal

pub returns-then-not-is_covered : goal.returns-then-not-is_covered
returns-then-not-is_covered c =
    no (All-not (λ i. Any (λ j. Covers c.args.acts.now j i) c.args.by.now) c.args.policies.now c.loop-i.i-index c.i-item.result c.loop-i-test.true c.i-item.is (iff_false c.is_covered.ensures c.if-not-is_covered.true))

pub loop-i-preserved : goal.loop-i-preserved
loop-i-preserved c =
    AllWithin-item (λ i. Any (λ j. Covers c.args.acts.now j i) c.args.by.now) c.args.policies.now c.loop-i.i-index c.i-item.result c.loop-i-test.true c.i-item.is (c.is_covered.ensures.0 c.if-not-is_covered.false) c.loop-i.invariant
