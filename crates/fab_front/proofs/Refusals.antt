-- No label is refused where all that is owed holds.
use Rattle.std.proofs.lemmas.List.Elements.{All-contains}
use Rattle.std.proofs.lemmas.Option.{slice_get_within, get_or_from_slice_get}
use Rattle.fab_tree.specs.declared.resolved.Resolved.{Resolved}
use Rattle.fab_labelling.specs.declared.rule.Refusal.{Refusal}
use Rattle.fab_labelling.specs.Obligations.{owed}
use Rattle.fab_labelling.specs.Claims.{Holds, IsWellLabelled}
use Rattle.fab_labelling.specs.Refusals.{IsFirstRefusal}

pub none_refused : {A : Type 0} (r : Resolved) (a : Refusal) → IsWellLabelled r → IsFirstRefusal r a → A
none_refused r a well f =
    absurd (f.broken (All-contains (λ x. Holds r x.claim) (owed r) f.x well (f.i, slice_get_within (owed r) f.i f.x f.is, get_or_from_slice_get (owed r) f.i f.x f.x f.is)))
