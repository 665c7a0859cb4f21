use Rattle.fab_language.specs.Meaning.{meaning}
use Rattle.fab_laws.proofs.Changes.{leaves, made_of}
use Rattle.fab_laws.proofs.laws.made_names_are_new.Goals as goal

pub returns : goal.returns
returns c = record {
  made = λ program known request tid fuel. (leaves known program tid request fuel).makes;
  of_attempt = λ program known request tid fuel. made_of tid (meaning program known request tid fuel) (leaves known program tid request fuel).makes;
  new = λ program known request tid fuel o unmade e. unmade o (made_of tid (meaning program known request tid fuel) (leaves known program tid request fuel).makes o e);
}
