use Rattle.std.proofs.Common.{arith}
use Rattle.std.proofs.lemmas.Bool.{iff_false}
use Rattle.fab_base.specs.Labels.{Covers}
use Rattle.fab_labels.proofs.Searches.{Any-none, AllWithin-item, first_found}
use Rattle.fab_labels.proofs.policies.first_cover.Goals as goal

pub returns-then-covers-clause-first : goal.returns-then-covers-clause-first
returns-then-covers-clause-first c = first_found (λ j. Covers c.args.acts.now j c.args.i.now) c.args.by.now c.loop-k.k c.index-by-k.result c.loop-k-test.true c.index-by-k.is (c.covers.ensures.0 c.if-covers.true) c.loop-k.invariant

pub loop-k-preserved : goal.loop-k-preserved
loop-k-preserved c =
    AllWithin-item (λ j. ¬ Covers c.args.acts.now j c.args.i.now) c.args.by.now c.loop-k.k c.index-by-k.result c.loop-k-test.true c.index-by-k.is (iff_false c.covers.ensures c.if-covers.false) c.loop-k.invariant

pub returns-clause-first : goal.returns-clause-first
returns-clause-first c = Any-none (λ j. Covers c.args.acts.now j c.args.i.now) c.args.by.now c.loop-k.k (omega arith) c.loop-k.invariant
