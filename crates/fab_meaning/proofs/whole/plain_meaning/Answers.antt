use Rattle.std.proofs.Common.{IfOk, subst}
use Rattle.fab_language.specs.Meaning as m
use Rattle.fab_meaning.specs.Ends.{IsMeant}
use Rattle.fab_meaning.proofs.whole.plain_meaning.Goals as goal

pub returns : goal.returns
returns c =
    subst (λ (x : m.Meant). IfOk c.found.result (λ f. IsMeant f x)) (c.everything_seen.ensures c.args.program.now c.args.known.now c.args.request.now c.args.tid c.args.fuel) c.found.ensures
