use Rattle.std.proofs.Common.{◌∙◌}
use Rattle.fab_trusted.specs.Robust.{guards}
use Rattle.fab_trust.proofs.Least.{found_by, told}
use Rattle.fab_trust.proofs.guards.robust.Goals as goal

pub returns-in-Some-clause-refused : goal.returns-in-Some-clause-refused
returns-in-Some-clause-refused c = λ at source principal e.
    let r = c.args.checked.now.start.now in
    let found = found_by r c.as_slice.result.now c.as_slice-2.result.now c.in_ok-guard.field-0 (c.as_slice.ensures ∙ c.requires.pcs) c.as_slice-2.ensures c.in_ok-guard.ensures in
    told r (guards r) c.in-Some.guard at source principal (rw c.in-Some.is at found) (cc) (cc) (cc)

pub returns-in-None-clause-right : goal.returns-in-None-clause-right
returns-in-None-clause-right c =
    let r = c.args.checked.now.start.now in
    let found = found_by r c.as_slice.result.now c.as_slice-2.result.now c.in_ok-guard.field-0 (c.as_slice.ensures ∙ c.requires.pcs) c.as_slice-2.ensures c.in_ok-guard.ensures in
    rw c.in-None.is at found
