use Rattle.fab_check.specs.Shown.{numbers_of}
use Rattle.fab_authority.proofs.Deciding.{declassify_decided}
use Rattle.fab_check.proofs.downgrades.may_declassify.Goals as goal

pub returns : goal.returns
returns c =
    declassify_decided c.args.verdicts.now.start c.declass_ok.result c.acts.result.now c.acts.ensures c.args.from c.args.to (numbers_of c.args.scope.now.authority.now) c.args.scope.now.set c.args.scope.now.is_set c.label.result.now c.label-2.result.now c.label.ensures c.label-2.ensures c.declass_ok.ensures.exact
