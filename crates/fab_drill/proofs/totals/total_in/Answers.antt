use Rattle.std.proofs.Common.{◌≡◌, ◌+ℤ◌, flat_map, SFits, subst, rules}
use Rattle.std.specs.Int.{w128}
use Rattle.std.proofs.lemmas.Int.{to_z-of_z}
use Rattle.fab_drill.specs.Summary.{joined, numbers_of, total}
use Rattle.fab_drill.proofs.Sums.{store_on}
use Rattle.fab_drill.proofs.totals.total_in.Goals as goal

pub stores-preserved : goal.stores-preserved
stores-preserved c =
    let fits : SFits w128 c.in_ok-sum.sum = search rules in
    let all = total (flat_map numbers_of (joined c.args.stores.now)) in
    let added : c.in_ok-sum.sum ≡ c.stores.sum +ℤ total (flat_map numbers_of c.in-Some.rows.now) = search rules in
    let was : c.stores.sum +ℤ total (flat_map numbers_of (joined c.stores.rest.now)) ≡ all = search rules in
    let so_far = subst (λ stores. c.stores.sum +ℤ total (flat_map numbers_of (joined stores)) ≡ all) c.in-Some.ensures.cases.0 was in
    rw (to_z-of_z w128 c.in_ok-sum.sum fits) (store_on c.stores.sum c.in_ok-sum.sum all c.in-Some.rows.now c.in-Some.after.now added so_far)
