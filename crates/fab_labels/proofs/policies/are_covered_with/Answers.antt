use Rattle.std.proofs.Common.{Any, ◌⊎◌, arith}
use Rattle.std.proofs.lemmas.Bool.{iff_false}
use Rattle.fab_base.specs.Labels.{Covers}
use Rattle.fab_labels.specs.Covered.{HasAuthority}
use Rattle.fab_labels.proofs.Searches.{yes, no, All-end, All-not, AllWithin-item}
use Rattle.fab_labels.proofs.policies.are_covered_with.Goals as goal

pub returns-then-not-is_covered_with : goal.returns-then-not-is_covered_with
returns-then-not-is_covered_with c =
    no (All-not (λ i. Any (λ j. Covers c.args.acts.now j i) c.args.by.now ⊎ HasAuthority c.args.acts.now c.args.set i.owner) c.args.policies.now c.loop-i.i-index c.i-item.result c.loop-i-test.true c.i-item.is
    (iff_false c.is_covered_with.ensures c.if-not-is_covered_with.true))

pub loop-i-preserved : goal.loop-i-preserved
loop-i-preserved c =
    AllWithin-item (λ i. Any (λ j. Covers c.args.acts.now j i) c.args.by.now ⊎ HasAuthority c.args.acts.now c.args.set i.owner) c.args.policies.now c.loop-i.i-index c.i-item.result c.loop-i-test.true c.i-item.is
    (c.is_covered_with.ensures.0 c.if-not-is_covered_with.false) c.loop-i.invariant

pub returns : goal.returns
returns c = yes (All-end (λ i. Any (λ j. Covers c.args.acts.now j i) c.args.by.now ⊎ HasAuthority c.args.acts.now c.args.set i.owner) c.args.policies.now c.loop-i.i-index (omega arith) c.loop-i.invariant)
