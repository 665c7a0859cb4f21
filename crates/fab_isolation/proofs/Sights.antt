-- What a set of nodes of an accepted bundle sees: the classes that its stores may hold and its workers may fetch.
use Rattle.std.proofs.Common.{◌≡◌, ℕ, ◌<◌, ◌||◌, Bool, true, false, IsTrue, length, Option, Some, None, refl, sym, ◌∙◌, IsBitSet, IsSomeAnd}
use Rattle.std.specs.Prelude.{slice_get, option_map}
use Rattle.std.specs.List.{list_any}
use Rattle.std.proofs.lemmas.Bool.{true≢false}
use Rattle.fab_base.proofs.Lists.{at_index}
use Rattle.fab_tree.specs.declared.resolved.Class.{Class}
use Rattle.fab_tree.specs.declared.resolved.Resolved.{Resolved}
use Rattle.fab_language.specs.Flows.{delegations_of}
use Rattle.fab_labelling.specs.Readers.{IsNode, IsReader, label_at, principal_of}
use Rattle.fab_labelling.specs.Placement.{HoldsClass}
use Rattle.fab_places.specs.Places.{AreRights}
use Rattle.fab_places.proofs.NodeLemmas.{role_is_node}
use Rattle.fab_rights.specs.Computed as computed
use Rattle.fab_rights.specs.Computed.{has_bit, may_fetch, may_hold}
use Rattle.fab_rights.specs.declared.rights.ClassRights.{ClassRights}
use Rattle.fab_rights.specs.declared.rights.Rights.{Rights}
use Rattle.fab_rights.proofs.Bits.{has_bit_exact}
use Rattle.fab_settings.proofs.Nodes.{holds_number}
use Rattle.fab_fewer.specs.Asking.{access_of, is_asked_in_view}
use Rattle.fab_views.specs.Views.{IsSeenBy}
use Rattle.fab_views.proofs.Labels.{IsLabelledClass, HasLabels}

some_mapped : {A B : Type 0} (f : A → B) (P : B → Type 0) (o : Option A) → IsSomeAnd (option_map f o) P → IsSomeAnd o (λ x. P (f x))
some_mapped f P None h = absurd h
some_mapped f P (Some x) h = h

either_true : (b : Bool) → b ≡ true → (b || false) ≡ true
either_true true e = refl
either_true false e = e

fetched_bit : (o : Option ClassRights) (n : ℕ) → IsTrue (computed.fetches o n) → IsSomeAnd o (λ c. IsBitSet c.fetchers n)
fetched_bit None n h = absurd (true≢false (sym h))
fetched_bit (Some c) n h = (has_bit_exact c.fetchers n).0 h

module _ (r : Resolved) (nodes : ℕ) (sees shows : ℕ → Bool) (seen : IsSeenBy r nodes sees shows) (declared : HasLabels r) where
  class_labelled : (class : ℕ) (c : Class) → slice_get r.classes class ≡ Some c → IsLabelledClass (length r.labels) c
  class_labelled class c e = at_index (IsLabelledClass (length r.labels)) r.classes class c declared.classes e

  -- a declared label that a node of the set reads is seen
  pub reads_are_seen : (n l : ℕ) → l < length r.labels → has_bit nodes n ≡ true → IsNode r n → IsReader (delegations_of r) (label_at r l) (principal_of r n) → IsTrue (sees l)
  reads_are_seen n l is bit node reads = (seen.labels l).1 (is, (n, (has_bit_exact nodes n).0 bit, node, reads))

  -- and so is a class of such a label
  read_classes : (n class : ℕ) → has_bit nodes n ≡ true → IsNode r n
      → (o : Option Class) → slice_get r.classes class ≡ o → IsSomeAnd o (λ c. IsReader (delegations_of r) (label_at r c.label.number) (principal_of r n)) → shows class ≡ true
  read_classes n class bit node None e h = absurd h
  read_classes n class bit node (Some c) e h = seen.classes class c e ∙ reads_are_seen n c.label.number (class_labelled class c e).label bit node h

  module _ (rights : Rights) (are : AreRights r rights) where
    pub held_is_shown : (n class : ℕ) → has_bit nodes n ≡ true → IsTrue (may_hold rights n class) → shows class ≡ true
    held_is_shown n class bit may =
        let number = holds_number r rights are n class may in
        read_classes n class bit (role_is_node r n _ number.0) (slice_get r.classes class) refl (weaker (slice_get r.classes class) number.1)
      where
        weaker : (o : Option Class) → IsSomeAnd o (λ c. HoldsClass r (delegations_of r) n c) → IsSomeAnd o (λ c. IsReader (delegations_of r) (label_at r c.label.number) (principal_of r n))
        weaker None h = absurd h
        weaker (Some c) h = h.reads

    pub fetched_is_shown : (n class : ℕ) → has_bit nodes n ≡ true → IsTrue (may_fetch rights n class) → shows class ≡ true
    fetched_is_shown n class bit may =
        let number = (are.fetched n class).0 (fetched_bit (slice_get rights.classes class) n may) in
        read_classes n class bit (role_is_node r n _ number.0) (slice_get r.classes class) refl number.1

    -- the access label of a class that a store of the set may hold is seen
    pub held_is_asked : (n class : ℕ) → has_bit nodes n ≡ true → IsTrue (may_hold rights n class) → IsTrue (is_asked_in_view sees shows r class)
    held_is_asked n class bit may =
        let number = holds_number r rights are n class may in
        by (slice_get r.classes class) refl (role_is_node r n _ number.0) number.1
      where
        by : (o : Option Class) → slice_get r.classes class ≡ o → IsNode r n → IsSomeAnd o (λ c. HoldsClass r (delegations_of r) n c) → IsTrue (list_any sees (access_of o))
        by None e node h = absurd h
        by (Some c) e node h = either_true (sees c.access.number) (reads_are_seen n c.access.number (class_labelled class c e).access bit node h.learns)
