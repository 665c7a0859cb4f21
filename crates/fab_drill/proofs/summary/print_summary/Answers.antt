use Rattle.std.proofs.Common.{◌≡◌, SFits, rules, length, count_by, flat_map}
use Rattle.std.specs.Int.{w128}
use Rattle.std.proofs.lemmas.Int.{to_z-of_z}
use Rattle.fab_drill.specs.Summary.{joined, is_committed, numbers_of, total}
use Rattle.fab_drill.proofs.summary.print_summary.Goals as goal

pub returns : goal.returns
returns c =
    let requests : c.in_ok-requests.requests ≡ length (joined c.args.outcomes.now.workers) = search rules in
    let committed : c.in_ok-committed.committed ≡ count_by is_committed (joined c.args.outcomes.now.workers) = search rules in
    let objects : c.in_ok-objects.objects ≡ length (joined c.args.held.now.stores) = search rules in
    let sum : c.in_ok-total.total ≡ total (flat_map numbers_of (joined c.args.held.now.stores)) = search rules in
    let fits : SFits w128 c.in_ok-total.total = search rules in
    rw (to_z-of_z w128 c.in_ok-total.total fits, requests, committed, objects, sum) at c.print_line.ensures
