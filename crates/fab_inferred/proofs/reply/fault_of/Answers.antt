use Rattle.std.proofs.Common.{◌≡◌, List, [], map, sym, ap, ◌∙◌, subst}
use Rattle.fab_tree.specs.Limits.{first_passed}
use Rattle.fab_tree.specs.declared.start.Start.{Start}
use Rattle.fab_language.specs.Faults.{faults, IsFirst}
use Rattle.fab_holes.specs.Holes.{filled}
use Rattle.fab_front.proofs.Accepting.{within}
use Rattle.fab_inferred.specs.Infers.{first_filled}
use Rattle.fab_inferred.proofs.Holed.{first_is, first_within}
use Rattle.fab_inferred.proofs.reply.fault_of.Goals as goal

pub named-requires : goal.named-requires
named-requires c =
    let e = first_is c.args.start.now c.in_ok-taken.taken c.in_ok-first.first c.in_ok-places.places c.as_slice.result.now c.in_ok-labels.labels c.as_slice-2.result.now
    c.in_ok-taken.ensures c.in_ok-places.ensures c.as_slice.ensures c.in_ok-labels.ensures c.as_slice-2.ensures c.in_ok-first.ensures in
    ap first_passed e ∙ first_within c.filled_bundles_keep_the_rules_of_names.ensures.limits c.args.start.now (within c.requires.is)

pub returns-in-Ok : goal.returns-in-Ok
returns-in-Ok c =
    let e = first_is c.args.start.now c.in_ok-taken.taken c.in_ok-first.first c.in_ok-places.places c.as_slice.result.now c.in_ok-labels.labels c.as_slice-2.result.now
    c.in_ok-taken.ensures c.in_ok-places.ensures c.as_slice.ensures c.in_ok-labels.ensures c.as_slice-2.ensures c.in_ok-first.ensures in
    let p = rw c.in-Ok.is at c.in_ok-named.ensures in
    subst (λ (s : Start). faults s ≡ []) e p.0

pub returns : goal.returns
returns c =
    let e = first_is c.args.start.now c.in_ok-taken.taken c.in_ok-first.first c.in_ok-places.places c.as_slice.result.now c.in_ok-labels.labels c.as_slice-2.result.now
    c.in_ok-taken.ensures c.in_ok-places.ensures c.as_slice.ensures c.in_ok-labels.ensures c.as_slice-2.ensures c.in_ok-first.ensures in
    let p = rw c.in-Err.is at c.in_ok-named.ensures in
    subst (λ (s : Start). IsFirst (faults s) c.in-Err.fault) e p
