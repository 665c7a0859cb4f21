use Rattle.std.proofs.Common.{sym, subst}
use Rattle.fab_authority.specs.Authority.{HasFew}
use Rattle.fab_infer.proofs.Answered.{few_stay}
use Rattle.fab_infer.proofs.whole.with_least.Goals as goal

pub refusal_of-requires-clause-few : goal.refusal_of-requires-clause-few
refusal_of-requires-clause-few c = subst HasFew (sym c.in_ok-filled.ensures) (few_stay c.args.start c.as_slice.result.now c.requires.few)
