use Rattle.std.proofs.Common.{◌≡◌, Some, IfOk, sym, subst}
use Rattle.fab_language.specs.Numbers.{resolved}
use Rattle.fab_labelling.specs.Claims.{IsWellLabelled}
use Rattle.fab_front.specs.Lines.{robust_line}
use Rattle.fab_front.specs.declared.status.Status.TheVariants as status
use Rattle.fab_front.proofs.Accepting.{held, if_told, within}
use Rattle.fab_front.proofs.Authorities.{has_few}
use Rattle.fab_reply.specs.Reply.{Answers, one_reply}
use Rattle.fab_reply.proofs.Replying.{unrobust_of}
use Rattle.fab_reply.proofs.answers.accepted.Goals as goal

pub unkept-requires-clause-principals : goal.unkept-requires-clause-principals
unkept-requires-clause-principals g c =
    let p = c.requires.accepted in
    held c.args.start.now c.args.program (within c.requires.front.is) p.0 p.1

pub unkept-requires-clause-few : goal.unkept-requires-clause-few
unkept-requires-clause-few g c =
    let p = c.requires.accepted in
    let principals = held c.args.start.now c.args.program (within c.requires.front.is) p.0 p.1 in
    has_few c.args.start.now c.args.program (within c.requires.front.is) p.0 principals p.1

pub unkept-requires-clause-labelled : goal.unkept-requires-clause-labelled
unkept-requires-clause-labelled g c =
    let p = c.requires.accepted in
    subst IsWellLabelled (sym p.1) p.2

pub returns-in-Some-clause-replies : goal.returns-in-Some-clause-replies
returns-in-Some-clause-replies g c =
    let p = c.requires.accepted in
    let x = c.in-Some.guard in
    let first = rw c.in-Some.is at c.in_ok-guard.ensures in
    if_told (Answers (Some c.args.command.now) c.args.text.now) (status.Robust x.at x.source x.principal) (robust_line (resolved c.args.start.now) x.at x.source x.principal) c.unrobust.result
    (subst (λ y. IfOk c.unrobust.result (λ t. (t.0 ≡ status.Robust x.at x.source x.principal) × (t.1 ≡ robust_line y x.at x.source x.principal))) p.1 c.unrobust.ensures)
    (one_reply (unrobust_of c.requires.front c.args.command.now c.args.set p.0 p.2 c.requires.set x (first c.args.start.now p.1)))
