use Rattle.std.proofs.Common.{arith}
use Rattle.std.proofs.lemmas.Bool.{iff_false}
use Rattle.fab_base.specs.Labels.{Covers}
use Rattle.fab_labels.proofs.Searches.{no, Any-none, AllWithin-item}
use Rattle.fab_labels.proofs.policies.is_covered.Goals as goal

pub loop-j-preserved : goal.loop-j-preserved
loop-j-preserved c =
    AllWithin-item (λ j. ¬ Covers c.args.acts.now j c.args.i.now) c.args.by.now c.loop-j.j-index c.j-item.result c.loop-j-test.true c.j-item.is (iff_false c.covers.ensures c.if-covers.false) c.loop-j.invariant

pub returns : goal.returns
returns c = no (Any-none (λ j. Covers c.args.acts.now j c.args.i.now) c.args.by.now c.loop-j.j-index (omega arith) c.loop-j.invariant)
