use Rattle.std.proofs.Common.{ap, ◌∙◌, option_map, find}
use Rattle.fab_language.specs.Names.{named, local_name, is_same_name}
use Rattle.fab_rules.specs.Known.{parameter_of}
use Rattle.fab_rules.proofs.Shown.{found_shown}
use Rattle.fab_rules.proofs.known.Known.find.Goals as goal

pub returns : goal.returns
returns c =
    let name = c.args.name.now in
    ap (option_map parameter_of) (c.copied.ensures ∙ c.first_named.ensures ∙ ap (find (λ l. is_same_name l.name.now name)) c.as_slice.ensures.value)
    ∙ found_shown name c.self.inside.locals.items
    ∙ ap (λ k. named local_name k name) c.self.view_is
