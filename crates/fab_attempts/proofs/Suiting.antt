-- An object that suits its name by the rights of a program has the shape of its class, and no more than 16 fields.
use Rattle.std.proofs.Common.{◌≡◌, ℕ, zero, suc, ◌≤◌, ◌==◌, true, IsTrue, List, [], ◌∷◌, map, length, refl, sym, subst, arith}
use Rattle.std.specs.Prelude.{slice_get}
use Rattle.std.specs.List.{AllByRecursion}
use Rattle.std.proofs.lemmas.Bool.{true≢false, and_parts}
use Rattle.std.proofs.lemmas.Bool.Decides.{nat_tests}
use Rattle.std.proofs.lemmas.List.{length-map}
use Rattle.fab_base.specs.declared.object.Oid.{Oid}
use Rattle.fab_base.specs.declared.object.Object.{Object}
use Rattle.fab_base.specs.declared.object.Value.{Value}
use Rattle.fab_base.specs.declared.object.Value.TheVariants.{Int, Null, Ref}
use Rattle.fab_tree.specs.declared.resolved.Class.{Class}
use Rattle.fab_tree.specs.declared.resolved.Field.{Field}
use Rattle.fab_tree.specs.declared.resolved.Resolved.{Resolved}
use Rattle.fab_tree.specs.declared.resolved.Sort.{Sort}
use Rattle.fab_tree.specs.declared.resolved.Sort.TheVariants as sorts
use Rattle.fab_laws.specs.Kinds.{kind_of_sort, class_kinds}
use Rattle.fab_laws.specs.Shapes.{suits, AllSuit, IsShaped}
use Rattle.fab_laws.proofs.Shapes.{suit_length}
use Rattle.fab_places.specs.Places as places
use Rattle.fab_rights.specs.Computed as computed
use Rattle.fab_rights.specs.declared.rights.ClassRights.{ClassRights}
use Rattle.fab_rights.specs.declared.rights.Rights.{Rights}
use Rattle.fab_attempts.specs.Sessions.{IsProgramOf}

module _ (rights : Rights) where
  -- what a field may hold by the rights is of the field's kind
  one_suits : (s : Sort) (v : Value) → IsTrue (computed.fits_field rights (places.shape_of_sort s) v) → suits (kind_of_sort s) v ≡ true
  one_suits (sorts.Number w) v h = h
  one_suits (sorts.Class x) (Int n) h = absurd (true≢false (sym h))
  one_suits (sorts.Class x) Null h = refl
  one_suits (sorts.Class x) (Ref o) h = (and_parts (o.class == x.number) (computed.may_hold rights o.store x.number) h).0

  all_suit : (fields : List Field) (vs : List Value) → IsTrue (computed.fit_fields rights (map places.shape_of fields) vs) → AllSuit (map (λ x. kind_of_sort x.sort) fields) vs
  all_suit [] [] h = tt
  all_suit [] (v ∷ vs) h = absurd (true≢false (sym h))
  all_suit (f ∷ fs) [] h = absurd (true≢false (sym h))
  all_suit (f ∷ fs) (v ∷ vs) h =
      let g = and_parts (computed.fits_field rights (places.shape_of f) v) (computed.fit_fields rights (map places.shape_of fs) vs) h in
      (one_suits f.sort v g.0, all_suit fs vs g.1)

  -- where the rights know the fields of the classes
  class_suits : (rs : List ClassRights) (cs : List Class) → map (λ c. c.fields) rs ≡ map (λ c. map places.shape_of c.fields) cs → (n : ℕ) (x : Object)
      → IsTrue (computed.fits_class rights (slice_get rs n) x) → AllSuit (class_kinds cs n) x.fields
  class_suits [] cs e n x h = absurd (true≢false (sym h))
  class_suits (r ∷ rs) [] e n x h = cc
  class_suits (r ∷ rs) (c ∷ cs) e zero x h =
      let same : r.fields ≡ map places.shape_of c.fields = cc in
      all_suit c.fields x.fields (subst (λ fs. IsTrue (computed.fit_fields rights fs x.fields)) same h)
  class_suits (r ∷ rs) (c ∷ cs) e (suc n) x h =
      let rest : map (λ c. c.fields) rs ≡ map (λ c. map places.shape_of c.fields) cs = cc in
      class_suits rs cs rest n x h

pub answer_shaped : (program : Resolved) (n : ℕ) (rights : Rights) (o : Oid) (x : Object) → IsProgramOf program n rights
    → IsTrue (computed.suits rights o x) → IsShaped program.classes o x
answer_shaped program n rights o x fits h =
    let g = and_parts (computed.is_well_formed rights x) (x.class == o.class) h in
    let same : x.class ≡ o.class = grind (arith, nat_tests, g.1) in
    record {
      class = same;
      fields = subst (λ class. AllSuit (class_kinds program.classes class) x.fields) same (class_suits rights rights.classes program.classes fits.shapes x.class x g.0);
    }

-- ---- how many fields there are

few_kinds : (cs : List Class) → AllByRecursion (λ c. length c.fields ≤ 16) cs → (n : ℕ) → length (class_kinds cs n) ≤ 16
few_kinds [] h n = omega arith
few_kinds (c ∷ cs) h zero = let m = length-map c.fields (λ (f : Field). kind_of_sort f.sort) in omega (arith, h.0, m)
few_kinds (c ∷ cs) h (suc n) = few_kinds cs h.1 n

pub few_fields : (cs : List Class) → AllByRecursion (λ c. length c.fields ≤ 16) cs → (o : Oid) (x : Object) → IsShaped cs o x → length x.fields ≤ 16
few_fields cs h o x shaped =
    let n = suit_length (class_kinds cs o.class) x.fields shaped.fields in
    let m = few_kinds cs h o.class in
    omega (arith, n, m)
