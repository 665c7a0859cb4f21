use Rattle.std.proofs.Common.{sym}
use Rattle.fab_infer.proofs.Tabled.{lowest_is}
use Rattle.fab_infer.proofs.least.is_lowest.Goals as goal

pub returns-then-is_in : goal.returns-then-is_in
returns-then-is_in c = λ r h table is.
    let low = lowest_is r c.args.rows.now c.args.fitting h c.args.k c.in-Some.row.now table is (sym c.in-Some.ensures) in
    (λ t. low.0 (c.is_in.ensures.exact.0 c.if-is_in.true, c.is_within.ensures.exact.0 t), λ lowest. c.is_within.ensures.exact.1 (low.1 lowest).1)
