use Rattle.std.proofs.Common.{get_or, arith}
use Rattle.std.proofs.lemmas.Bool.{iff_false}
use Rattle.fab_base.specs.Principals.{ActsFor}
use Rattle.fab_labels.proofs.Searches.{no, Any-none, AllWithin-item, number_is}
use Rattle.fab_labels.proofs.policies.acts_for_member.Goals as goal

pub loop-member-preserved : goal.loop-member-preserved
loop-member-preserved c =
    AllWithin-item (λ q. ¬ ActsFor c.args.acts.now c.args.m q) c.args.members.now c.loop-member.member-index (get_or c.args.members.now c.loop-member.member-index 0) c.loop-member-test.true
    (number_is c.args.members.now c.loop-member.member-index c.loop-member-test.true) (iff_false c.acts.ensures.exact c.if-acts.false) c.loop-member.invariant

pub returns : goal.returns
returns c = no (Any-none (λ q. ActsFor c.args.acts.now c.args.m q) c.args.members.now c.loop-member.member-index (omega arith) c.loop-member.invariant)
