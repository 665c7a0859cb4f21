use Rattle.std.proofs.Common.{◌≡◌, ap, ◌∙◌, subst}
use Rattle.std.specs.Prelude.{IfOk}
use Rattle.fab_language.specs.Doubled.{repeats}
use Rattle.fab_language.specs.Names.{local_name}
use Rattle.fab_rules.specs.First.{first_from}
use Rattle.fab_rules.specs.Known.{parameter_of, shown}
use Rattle.fab_spaces.proofs.ShownNames.{repeats_shown}
use Rattle.fab_spaces.proofs.doubled.in_method.Goals as goal

pub returns : goal.returns
returns c =
    let names = repeats_shown parameter_of local_name c.deref.result.now ∙ ap (λ ls. repeats local_name (shown ls)) c.deref.ensures.value ∙ ap (repeats local_name) c.in_ok-locals.ensures in
    subst (λ fs. IfOk c.repeats.result (λ o. o ≡ first_from c.args.first fs)) names c.repeats.ensures
