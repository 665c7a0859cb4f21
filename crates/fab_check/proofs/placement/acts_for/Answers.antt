use Rattle.std.proofs.lemmas.Bool.Decides.{same_from_decides}
use Rattle.fab_authority.specs.Decided.{reaches}
use Rattle.fab_authority.proofs.Deciding.{Decides-acts}
use Rattle.fab_check.proofs.placement.acts_for.Goals as goal

pub returns : goal.returns
returns c = same_from_decides c.acts.result (reaches c.args.acts.now.pairs c.args.p c.args.q) c.acts.ensures.exact (Decides-acts c.args.acts.now c.args.p c.args.q)
