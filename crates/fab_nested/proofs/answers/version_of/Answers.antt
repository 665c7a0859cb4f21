use Rattle.std.proofs.Common.{ap, sym, ◌∙◌, unwrap_or}
use Rattle.fab_nested.proofs.Naming.{version_found}
use Rattle.fab_nested.proofs.answers.version_of.Goals as goal

pub returns : goal.returns
returns c =
    c.unwrap_or.ensures
    ∙ ap (λ r. unwrap_or r 0) (c.copied.ensures ∙ c.get.ensures.value)
    ∙ sym (version_found c.args.versions.now.entries c.args.oid)
