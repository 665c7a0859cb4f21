use Rattle.std.proofs.Common.{refl}
use Rattle.fab_faults.proofs.Walks.{found_with_result}
use Rattle.fab_faults.proofs.walk.in_heads.Goals as goal

pub returns : goal.returns
returns g c =
    let says = g.R.HeadRule.says c.args.rule.now in
    let m = c.args.method.now in
    let all = found_with_result says c.args.first m c.in-Some.value c.in-Some.is in
    rw (all, c.in_result.ensures, c.in_ok-first.ensures.first, c.in_ok-first.ensures.behind, c.as_slice.ensures, c.in_ok-known.ensures) refl
