use Rattle.std.proofs.Common.{IfSome, Option, subst}
use Rattle.fab_base.specs.declared.object.Object.{Object}
use Rattle.fab_known.specs.declared.known.Last.{Last}
use Rattle.fab_known.specs.Knowing.{Runner}
use Rattle.fab_known.specs.Lasts.{IsAnswer, IsKnown, IsLast}
use Rattle.fab_known.proofs.Knowing.{goes_on}
use Rattle.fab_known.proofs.known.turned.Goals as goal

pub returns-in-Some-2 : goal.returns-in-Some-2
returns-in-Some-2 c =
    let r : Runner = record { program = c.args.part.now; seen = c.args.seen } in
    let rows = c.args.rows.now in
    let given = c.args.given.now in
    let last : Last = c.in-Some.last in
    let is : IsLast r rows given last = subst (λ (l : Option Last). IsKnown r rows given l) c.in-Some.is c.requires in
    let a : IsAnswer rows last c.args.number c.args.tid c.in-Some-2.object =
    subst (λ (o : Option Object). IfSome o (IsAnswer rows last c.args.number c.args.tid)) c.in-Some-2.is c.in_ok-object.ensures in
    goes_on r given c.args.number c.args.tid rows last c.in-Some-2.object a is c.in_ok-go_on-in-Some-2.field-0 c.pause_of.result c.in_ok-go_on-in-Some-2.ensures c.pause_of.ensures
