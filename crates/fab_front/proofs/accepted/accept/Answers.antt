use Rattle.std.proofs.Common.{subst}
use Rattle.fab_labelling.specs.Claims.{IsWellLabelled}
use Rattle.fab_labelling.specs.Refusals.{IsFirstRefusal}
use Rattle.fab_front.proofs.Accepting.{held}
use Rattle.fab_front.proofs.Authorities.{has_few}
use Rattle.fab_front.proofs.accepted.accept.Goals as goal

pub refusal_of-requires-clause-principals : goal.refusal_of-requires-clause-principals
refusal_of-requires-clause-principals c =
    let p = rw c.in-Ok.is at c.in_ok-fault.ensures in
    held c.args.start.now c.in-Ok.resolved c.requires p.0 p.1

pub refusal_of-requires-clause-few : goal.refusal_of-requires-clause-few
refusal_of-requires-clause-few c =
    let p = rw c.in-Ok.is at c.in_ok-fault.ensures in
    has_few c.args.start.now c.in-Ok.resolved c.requires p.0 (held c.args.start.now c.in-Ok.resolved c.requires p.0 p.1) p.1

pub returns-in-None : goal.returns-in-None
returns-in-None c =
    let p = rw c.in-Ok.is at c.in_ok-fault.ensures in
    let w = rw c.in-None.is at c.in_ok-told-in-Ok.ensures in
    (p.0, p.1, subst IsWellLabelled p.1 w)

pub returns-in-Some : goal.returns-in-Some
returns-in-Some c =
    let p = rw c.in-Ok.is at c.in_ok-fault.ensures in
    let w = rw c.in-Some.is at c.in_ok-told-in-Ok.ensures in
    (p.0, p.1, subst (λ r. IsFirstRefusal r c.in-Some.refusal) p.1 w)
