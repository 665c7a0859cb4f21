use Rattle.std.proofs.Common.{subst}
use Rattle.fab_reads.specs.Reads.{NeverFall}
use Rattle.fab_reads.proofs.Walking.{at_least_none}
use Rattle.fab_run.proofs.Agreeing.{rising_no, rising_yes}
use Rattle.fab_run.proofs.Counting.{falls_not, rises, risen}
use Rattle.fab_run.proofs.counts.never_fall.Goals as goal

pub loop-count-init : goal.loop-count-init
loop-count-init c = record { back = λ fall least. fall; on = λ fall. (fall, at_least_none c.args.counts.now) }

pub loop-count-preserved : goal.loop-count-preserved
loop-count-preserved c =
    let i = c.loop-count.invariant in
    let rest_is = c.in-Some.ensures.cases.0 in
    record {
      back = rises c.loop-count.last c.in-Some.count.now c.in-Some.after.now c.loop-count.rest.now c.args.counts.now rest_is c.if-count-last.false i.back;
      on = λ fall. let left = subst NeverFall rest_is (i.on fall).0 in (left.1, left.0);
    }

pub returns-then-count-last-clause-no : goal.returns-then-count-last-clause-no
returns-then-count-last-clause-no c = λ no fall. falls_not c.loop-count.last c.in-Some.count.now c.in-Some.after.now c.loop-count.rest.now c.in-Some.ensures.cases.0 c.if-count-last.true (c.loop-count.invariant.on fall).1

pub returns-clause-yes : goal.returns-clause-yes
returns-clause-yes c = λ yes. risen c.loop-count.last c.loop-count.rest.now c.args.counts.now c.in_default.ensures.cases c.loop-count.invariant.back

pub returns-then-count-last-clause-exact : goal.returns-then-count-last-clause-exact
returns-then-count-last-clause-exact c = rising_no c.args.counts.now
    (λ fall. falls_not c.loop-count.last c.in-Some.count.now c.in-Some.after.now c.loop-count.rest.now c.in-Some.ensures.cases.0 c.if-count-last.true (c.loop-count.invariant.on fall).1)

pub returns-clause-exact : goal.returns-clause-exact
returns-clause-exact c = rising_yes c.args.counts.now (risen c.loop-count.last c.loop-count.rest.now c.args.counts.now c.in_default.ensures.cases c.loop-count.invariant.back)
