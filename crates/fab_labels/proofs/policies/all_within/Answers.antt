use Rattle.std.proofs.Common.{◌∷◌, get_or}
use Rattle.std.proofs.lemmas.Bool.{iff_false}
use Rattle.fab_base.specs.Labels.{ActsForOne}
use Rattle.fab_labels.proofs.Searches.{no, All-not, AllWithin-item, number_is}
use Rattle.fab_labels.proofs.policies.all_within.Goals as goal

pub returns-then-not-acts_within : goal.returns-then-not-acts_within
returns-then-not-acts_within c =
    no (All-not (λ m. ActsForOne c.args.acts.now m (c.args.policy.now.owner ∷ c.args.policy.now.others)) c.args.members.now c.loop-m.m-index (get_or c.args.members.now c.loop-m.m-index 0) c.loop-m-test.true
    (number_is c.args.members.now c.loop-m.m-index c.loop-m-test.true) (iff_false c.acts_within.ensures c.if-not-acts_within.true))

pub loop-m-preserved : goal.loop-m-preserved
loop-m-preserved c =
    AllWithin-item (λ m. ActsForOne c.args.acts.now m (c.args.policy.now.owner ∷ c.args.policy.now.others)) c.args.members.now c.loop-m.m-index (get_or c.args.members.now c.loop-m.m-index 0) c.loop-m-test.true
    (number_is c.args.members.now c.loop-m.m-index c.loop-m-test.true) (c.acts_within.ensures.0 c.if-not-acts_within.false) c.loop-m.invariant
