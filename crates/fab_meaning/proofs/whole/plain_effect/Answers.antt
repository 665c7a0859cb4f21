use Rattle.std.proofs.Common.{IfOk, subst}
use Rattle.fab_language.specs.Meaning as m
use Rattle.fab_meaning.specs.Ends.{AreChanges}
use Rattle.fab_meaning.proofs.whole.plain_effect.Goals as goal

pub returns : goal.returns
returns c =
    subst (λ (x : m.Meant). IfOk c.change_found.result (λ e. AreChanges e x)) (c.everything_seen.ensures c.args.program.now c.args.known.now c.args.request.now c.args.tid c.args.fuel) c.change_found.ensures
