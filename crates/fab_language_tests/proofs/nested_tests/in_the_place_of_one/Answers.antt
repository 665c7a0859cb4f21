use Rattle.std.proofs.Common.{◌∷◌, [], arith}
use Rattle.std.proofs.lemmas.Map.Keys.{IsDistinct-from_apart}
use Rattle.fab_base.specs.FlatMap.{is_same}
use Rattle.fab_language_tests.proofs.nested_tests.in_the_place_of_one.Goals as goal

pub make-requires : goal.make-requires
make-requires c = rw (c.deref.ensures.value, c.in_ok-answers.ensures.items) (IsDistinct-from_apart is_same (_ ∷ []) (λ i j d before within. absurd (omega arith)))
