-- Whom no hostile node may have influenced, by a mask of the hostile ones.
use Rattle.std.specs.Prelude.{◌≡◌, ◌<◌, ◌^◌, ◌↔◌, ℕ, Bool, true, false, find, IsTrue, IsBitSet, IsSomeAnd, List, Option, Some, None, option_map, unwrap_or, slice_get}
use Rattle.std.specs.Str.{bytes_eq}
use Rattle.std.proofs.Common.{refl, sym, ap, ◌∙◌, subst, true≢false}
use Rattle.std.proofs.lemmas.Bool.{false≢true}
use Rattle.std.proofs.lemmas.Option.{slice_get_within}
use Rattle.fab_base.specs.declared.label.Label.{Label}
use Rattle.fab_base.specs.declared.object.Oid.{Oid}
use Rattle.fab_tree.specs.declared.resolved.Principal.{Principal}
use Rattle.fab_tree.specs.declared.resolved.Resolved.{Resolved}
use Rattle.fab_tree.specs.declared.resolved.Root.{Root}
use Rattle.fab_language.specs.Flows.{delegations_of}
use Rattle.fab_language.specs.Names.{is_hostile}
use Rattle.fab_labelling.specs.Readers.{Excludes, IsNode, label_at, principal_of}
use Rattle.fab_places.specs.Places.{ClassExcludes, HasNumbers}
use Rattle.fab_places.proofs.NodeLemmas.{numbered as within_masks}
use Rattle.fab_rights.specs.Computed.{has_bit}
use Rattle.fab_rights.proofs.Bits.{bit_below, has_bit_exact}
use Rattle.fab_front.specs.Readable.{ClassExcludesHostile, ExcludesHostile, IsReadable, is_declared_hostile}

and_some : {A : Type 0} {P Q : A → Type 0} (o : Option A) → ((x : A) → P x → Q x) → IsSomeAnd o P → IsSomeAnd o Q
and_some None f h = h
and_some (Some x) f h = f x h

module _ (r : Resolved) (numbers : HasNumbers r) where
  -- a node that was declared hostile is one
  hostile_node : (n : ℕ) → is_declared_hostile r n ≡ true → IsNode r n
  hostile_node n h = by (slice_get r.nodes (principal_of r n)) refl
    where
      by : (o : Option Principal) → slice_get r.nodes (principal_of r n) ≡ o → IsNode r n
      by None e = absurd (false≢true (ap (λ x. unwrap_or (option_map is_hostile (option_map (λ (p : Principal). p.role) x)) false) (sym e) ∙ h))
      by (Some x) e = slice_get_within r.nodes (principal_of r n) x e

  hostile_below : (n : ℕ) → is_declared_hostile r n ≡ true → n < 64
  hostile_below n h = within_masks r n numbers (hostile_node n h)

  module _ (mask : ℕ) (are : (n : ℕ) → n < 64 → has_bit mask n ≡ is_declared_hostile r n) where
    excludes : (label : Label) → Excludes r (delegations_of r) mask label → ExcludesHostile r label
    excludes label none n hostile = none n ((has_bit_exact mask n).0 (are n (hostile_below n hostile) ∙ hostile)) (hostile_node n hostile)

    is_excluded : (label : Label) → ExcludesHostile r label → Excludes r (delegations_of r) mask label
    is_excluded label none n set node = none n (sym (are n (within_masks r n numbers node)) ∙ (has_bit_exact mask n).1 set)

    pub class_excludes : (classes c : ℕ) → IsBitSet classes c ↔ ClassExcludes r (delegations_of r) mask c → IsTrue (has_bit classes c) ↔ ClassExcludesHostile r c
    class_excludes classes c h = (
      λ t. and_some (slice_get r.classes c) (λ class k. excludes (label_at r class.label.number) k) (h.0 ((has_bit_exact classes c).0 t)),
      λ k. (has_bit_exact classes c).1 (h.1 (and_some (slice_get r.classes c) (λ class l. is_excluded (label_at r class.label.number) l) k)),
    )

    -- who isn't in the mask isn't hostile, whatever its number
    is_honest : (n : ℕ) → has_bit mask n ≡ false → is_declared_hostile r n ≡ false
    is_honest n e = by (is_declared_hostile r n) refl
      where
        by : (b : Bool) → is_declared_hostile r n ≡ b → is_declared_hostile r n ≡ false
        by false is = is
        by true is = absurd (true≢false (sym is ∙ sym (are n (hostile_below n is)) ∙ e))

    pub hostile_bit : mask < 2 ^ 64 → (n : ℕ) → has_bit mask n ≡ is_declared_hostile r n
    hostile_bit fits n = by (has_bit mask n) refl
      where
        by : (b : Bool) → has_bit mask n ≡ b → has_bit mask n ≡ is_declared_hostile r n
        by true e = are n (bit_below mask n fits ((has_bit_exact mask n).0 e))
        by false e = e ∙ sym (is_honest n e)

-- ---- one root

pub no_root : (r : Resolved) (name : List ℕ) (oid : Oid) → find (λ x. bytes_eq x.name.text name) r.roots ≡ None → IsReadable r name oid → ⊥
no_root r name oid none h = let e : None ≡ Some h.root = sym none ∙ h.found in cc

same_root : (x y : Root) → Some x ≡ Some y → x ≡ y
same_root x y e = cc

module _ (r : Resolved) (name : List ℕ) (root : Root) (found : find (λ x. bytes_eq x.name.text name) r.roots ≡ Some root) where
  the_root : (oid : Oid) (h : IsReadable r name oid) → h.root ≡ root
  the_root oid h = same_root h.root root (sym h.found ∙ found)

  -- at a hostile store, or of a class that a hostile node may have influenced
  pub not_of_hostile : is_declared_hostile r root.oid.store ≡ true → (oid : Oid) → IsReadable r name oid → ⊥
  not_of_hostile e oid h = true≢false (sym e ∙ ap (λ (x : Root). is_declared_hostile r x.oid.store) (sym (the_root oid h)) ∙ h.honest)

  pub not_of_class : (ClassExcludesHostile r root.oid.class → ⊥) → (oid : Oid) → IsReadable r name oid → ⊥
  not_of_class none oid h = none (subst (λ (x : Root). ClassExcludesHostile r x.oid.class) (the_root oid h) h.trusted)
