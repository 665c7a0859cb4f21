-- Names of objects, compared part by part.
use Rattle.std.proofs.Common.{◌≡◌, true}
use Rattle.std.specs.Cmp.{IsEquivalence}
use Rattle.std.specs.Cmp.Lexicographic.{on_texts_equal}
use Rattle.fab_base.specs.declared.object.Oid.{Oid}
use Rattle.fab_base.specs.FlatMap.{parts_of, is_same}

pub same_is_equivalence : IsEquivalence is_same
same_is_equivalence = on_texts_equal parts_of

pub same_self : (o : Oid) → is_same o o ≡ true
same_self = same_is_equivalence.refl

pub same_flips : (o p : Oid) → is_same o p ≡ is_same p o
same_flips = same_is_equivalence.symm
