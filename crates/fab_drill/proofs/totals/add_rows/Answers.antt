use Rattle.std.proofs.Common.{◌≡◌, ◌+ℤ◌, flat_map, SFits, subst, rules}
use Rattle.std.specs.Int.{w128}
use Rattle.std.proofs.lemmas.Int.{to_z-of_z}
use Rattle.fab_drill.specs.Summary.{numbers_of, total}
use Rattle.fab_drill.proofs.Sums.{sum_on}
use Rattle.fab_drill.proofs.totals.add_rows.Goals as goal

pub rows-preserved : goal.rows-preserved
rows-preserved c =
    let begins : SFits w128 c.args.before = search rules in
    let fits : SFits w128 c.in_ok-sum.sum = search rules in
    let all = c.args.before +ℤ total (flat_map numbers_of c.args.rows.now) in
    let added : c.in_ok-sum.sum ≡ c.rows.sum +ℤ total (numbers_of c.in-Some.row.now) = search rules in
    let was : c.rows.sum +ℤ total (flat_map numbers_of c.rows.rest.now) ≡ all = search rules in
    let so_far = subst (λ rows. c.rows.sum +ℤ total (flat_map numbers_of rows) ≡ all) c.in-Some.ensures.cases.0 was in
    rw (to_z-of_z w128 c.in_ok-sum.sum fits, to_z-of_z w128 c.args.before begins)
    (sum_on c.rows.sum c.in_ok-sum.sum all (numbers_of c.in-Some.row.now) (flat_map numbers_of c.in-Some.after.now) added so_far)
