use Rattle.fab_language.specs.Meaning.{meaning}
use Rattle.fab_laws.proofs.Changes.{missing_is_absent}
use Rattle.fab_laws.proofs.Locality.{over_more, part_agrees}
use Rattle.fab_laws.proofs.laws.same_until_missing.Goals as goal

pub returns : goal.returns
returns c = record {
  agreeing = λ program request tid fuel few many w. over_more few many program request tid fuel w;
  part = λ program request tid fuel few many part lacks. over_more few many program request tid fuel (part_agrees few many (meaning program few request tid fuel) part lacks);
  missing = λ program known request tid fuel. missing_is_absent known program tid request fuel;
}
