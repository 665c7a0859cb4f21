use Rattle.std.proofs.Common.{sym, arith}
use Rattle.fab_infer.proofs.Tabled.{below_index, least_more, long_push}
use Rattle.fab_infer.proofs.least.leasts.Goals as goal

pub returns-in-None-clause-least : goal.returns-in-None-clause-least
returns-in-None-clause-least c = λ r table below. record {
  before = c.loop-mask.choice;
  least = c.loop-mask.invariant.least r table below;
  many = sym c.len.ensures;
  none = λ k is.
      let n = c.len.ensures in
      let many = c.loop-mask.invariant.many in
      c.in-None.ensures r c.len.result table (below_index r 0 c.args.below.now c.loop-mask.mask-index below c.loop-mask-test.true c.len.result (omega (arith, n, many))) k is;
}

pub loop-mask-preserved : goal.loop-mask-preserved
loop-mask-preserved c =
    let many = c.loop-mask.invariant.many in
    let long = long_push c.loop-mask.choice c.in-Some.label c.push.new.self c.in_ok-push-in-Some.ensures.ok in
    record {
      many = omega (arith, many, long);
      least = λ r table below.
          let more = least_more r 0 c.loop-mask.choice c.in-Some.label c.loop-mask.mask-index (c.loop-mask.invariant.least r table below) (omega (arith, many))
          (c.in-Some.ensures r c.loop-mask.mask-index table (below_index r 0 c.args.below.now c.loop-mask.mask-index below c.loop-mask-test.true c.loop-mask.mask-index (omega arith))) in
          rw c.in_ok-push-in-Some.ensures.ok more;
    }
