use Rattle.std.proofs.Common.{sym, ap, ◌∙◌, take}
use Rattle.std.proofs.lemmas.List.{take-map}
use Rattle.fab_rules.specs.Known.{parameter_of, shown}
use Rattle.fab_rules.proofs.known.Known.truncate.Goals as goal

pub returns : goal.returns
returns c = ap shown c.truncate.ensures.items ∙ sym (take-map parameter_of c.args.len c.self.inside.locals.items) ∙ ap (take c.args.len) c.self.view_is
