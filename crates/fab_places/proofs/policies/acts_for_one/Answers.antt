use Rattle.std.proofs.Common.{get_or, arith}
use Rattle.std.proofs.lemmas.Bool.{iff_false}
use Rattle.fab_base.specs.Principals.{ActsFor}
use Rattle.fab_labels.proofs.Searches.{no, Any-none, AllWithin-item, number_is}
use Rattle.fab_places.proofs.policies.acts_for_one.Goals as goal

pub loop-other-preserved : goal.loop-other-preserved
loop-other-preserved c =
    AllWithin-item (λ q. ¬ ActsFor c.args.acts.now c.args.p q) c.args.others.now c.loop-other.other-index (get_or c.args.others.now c.loop-other.other-index 0) c.loop-other-test.true
    (number_is c.args.others.now c.loop-other.other-index c.loop-other-test.true) (iff_false c.acts.ensures.exact c.if-acts.false) c.loop-other.invariant

pub returns : goal.returns
returns c = no (Any-none (λ q. ActsFor c.args.acts.now c.args.p q) c.args.others.now c.loop-other.other-index (omega arith) c.loop-other.invariant)
