use Rattle.std.proofs.Common.{Some, ◌∷◌, [], sym, ◌∙◌}
use Rattle.std.proofs.lemmas.Bool.Decides.{Decides-eqb}
use Rattle.std.proofs.lemmas.Slice.Eq.{starts_is, strip_prefix_is}
use Rattle.fab_evidence.specs.Parts.{head}
use Rattle.fab_evidence.proofs.Parts.{head_line}
use Rattle.fab_evidence.proofs.Steps.{some_length}
use Rattle.fab_evidence.proofs.place.begins_report.Goals as goal

pub returns-else-is_empty : goal.returns-else-is_empty
returns-else-is_empty c =
    head_line c.args.bytes.now c.in-Some.rest.now c.starts_with.result
    (strip_prefix_is Decides-eqb c.args.bytes.now head (Some c.in-Some.rest) c.in-Some.ensures.cases)
    (some_length c.in-Some.rest.now (sym c.is_empty.ensures ∙ c.if-is_empty.false))
    (starts_is Decides-eqb c.in-Some.rest.now (10 ∷ []) c.starts_with.result c.starts_with.ensures.value)
