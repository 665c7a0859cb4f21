-- The masks of the labels and classes that none of the nodes of a set can have influenced are what is trusted.
use Rattle.std.proofs.Common.{◌≡◌, ◌↔◌, ℕ, ◌<◌, Bool, true, false, length, Option, Some, None, IsTrue, IsSomeAnd, IsBitSet, refl, sym, subst}
use Rattle.std.specs.Prelude.{slice_get}
use Rattle.fab_tree.specs.declared.resolved.Class.{Class}
use Rattle.fab_tree.specs.declared.resolved.Resolved.{Resolved}
use Rattle.fab_language.specs.Flows.{delegations_of}
use Rattle.fab_labelling.specs.Readers.{Excludes, label_at}
use Rattle.fab_places.specs.Places.{ClassExcludes}
use Rattle.fab_places.specs.declared.masks.Seen.{Seen}
use Rattle.fab_rights.specs.Computed.{has_bit}
use Rattle.fab_rights.proofs.Bits.{has_bit_exact, same_truth}
use Rattle.fab_trusted.specs.Trusts.{IsTrustedBy}

-- in a program whose classes have labels that are declared
module _ (r : Resolved) (nodes : ℕ) (part : Seen) (declared : (n : ℕ) (class : Class) → slice_get r.classes n ≡ Some class → class.label.number < length r.labels)
    (labels : (l : ℕ) → IsBitSet part.labels l ↔ ((l < length r.labels) × Excludes r (delegations_of r) nodes (label_at r l)))
    (classes : (c : ℕ) → IsBitSet part.classes c ↔ ClassExcludes r (delegations_of r) nodes c) where
  abbrev Untouched : Option Class → Type 0
  Untouched o = IsSomeAnd o (λ c. Excludes r (delegations_of r) nodes (label_at r c.label.number))

  class_is : (n : ℕ) (o : Option Class) → slice_get r.classes n ≡ o → IsTrue (has_bit part.classes n) ↔ Untouched o
  class_is n o e = (
    λ t. subst Untouched e ((classes n).0 ((has_bit_exact part.classes n).0 t)),
    λ v. (has_bit_exact part.classes n).1 ((classes n).1 (subst Untouched (sym e) v)),
  )

  label_is : (l : ℕ) → IsTrue (has_bit part.labels l) ↔ ((l < length r.labels) × Excludes r (delegations_of r) nodes (label_at r l))
  label_is l = (λ t. (labels l).0 ((has_bit_exact part.labels l).0 t), λ v. (has_bit_exact part.labels l).1 ((labels l).1 v))

  pub is_trusted_by : IsTrustedBy r nodes (has_bit part.labels) (has_bit part.classes)
  is_trusted_by = record {
    labels = label_is;
    classes = λ n class e.
        same_truth (has_bit part.classes n) (has_bit part.labels class.label.number) {P = Excludes r (delegations_of r) nodes (label_at r class.label.number)}
        (class_is n (Some class) e)
        (λ t. ((label_is class.label.number).0 t).1, λ v. (label_is class.label.number).1 (declared n class e, v));
    absent = λ n e. absent_by n e (has_bit part.classes n) refl;
  }
    where
      absent_by : (n : ℕ) → slice_get r.classes n ≡ None → (b : Bool) → has_bit part.classes n ≡ b → has_bit part.classes n ≡ false
      absent_by n e false p = p
      absent_by n e true p = absurd ((class_is n None e).0 p)
