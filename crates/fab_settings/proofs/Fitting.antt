-- Objects that fit a bundle: what this says of their names, shapes and numbers, and when it holds.
use Rattle.std.proofs.Common.{◌≡◌, ℕ, zero, suc, ◌^◌, ◌<◌, ◌==◌, ◌&&◌, Bool, true, nat_lt, IsTrue, List, [], ◌∷◌, map, Option, Some, None, refl, sym, subst, arith}
use Rattle.std.specs.Prelude.{slice_get}
use Rattle.std.specs.List.{AllByRecursion}
use Rattle.std.proofs.lemmas.Bool.{true≢false, and_parts, and_from, ltb-true, lt-ltb}
use Rattle.std.proofs.lemmas.Bool.Decides.{nat_tests}
use Rattle.fab_base.specs.declared.object.Oid.{Oid}
use Rattle.fab_base.specs.declared.object.Object.{Object}
use Rattle.fab_base.specs.declared.object.Value.{Value}
use Rattle.fab_base.specs.declared.object.Value.TheVariants.{Int, Null, Ref}
use Rattle.fab_base.specs.FieldSpelling.{IsOid, IsValue, sent_version}
use Rattle.fab_tree.specs.declared.resolved.Class.{Class}
use Rattle.fab_tree.specs.declared.resolved.Field.{Field}
use Rattle.fab_tree.specs.declared.resolved.Resolved.{Resolved}
use Rattle.fab_tree.specs.declared.resolved.Sort.{Sort}
use Rattle.fab_tree.specs.declared.resolved.Sort.TheVariants as sorts
use Rattle.fab_laws.specs.Kinds.{kind_of_sort, class_kinds}
use Rattle.fab_laws.specs.Origins.{Passes, AllPass}
use Rattle.fab_laws.specs.Shapes.{suits, AllSuit, IsShaped}
use Rattle.fab_places.specs.Places as places
use Rattle.fab_rights.specs.Computed as computed
use Rattle.fab_rights.specs.Computed.{may_hold}
use Rattle.fab_rights.specs.declared.rights.ClassRights.{ClassRights}
use Rattle.fab_rights.specs.declared.rights.Rights.{Rights}
use Rattle.fab_rights.specs.declared.rights.Shape.{Shape}
use Rattle.fab_rights.specs.declared.rights.Shape.TheVariants as shapes
use Rattle.fab_world.specs.Machine.{Setting}
use Rattle.fab_world.specs.Serial.{IsFitName, IsFit}
use Rattle.fab_attempts.specs.Sessions.{IsProgramOf}
use Rattle.fab_attempts.proofs.Suiting.{answer_shaped, few_fields}
use Rattle.fab_settings.proofs.Ranges.{IsSmall, AllFit}
use Rattle.fab_laws.proofs.Values.{number_leads_nowhere}

-- ---- names by a test

-- each part of a name is within its number of bytes
abbrev pub is_spelled : Oid → Bool
is_spelled o =
    nat_lt o.worker (2 ^ 16) && (nat_lt o.boot (2 ^ 32) && (nat_lt o.number (2 ^ 32) && (nat_lt o.site (2 ^ 16) && nat_lt o.index (2 ^ 16))))

-- the store may hold the class, and the name can be spelled
abbrev pub fits_name : Rights → Oid → Bool
fits_name rights o = may_hold rights o.store o.class && is_spelled o

-- the stores that hold have numbers below 64, and so have classes
abbrev pub HasFew : Rights → Type 0
HasFew rights = (store class : ℕ) → IsTrue (may_hold rights store class) → (store < 64) × (class < 64)

module _ (rights : Rights) (o : Oid) where
  pub held_passes : IsTrue (may_hold rights o.store o.class) → IsOid o → fits_name rights o ≡ true
  held_passes held i =
      and_from (may_hold rights o.store o.class) (is_spelled o) held
      (and_from (nat_lt o.worker (2 ^ 16)) _ (lt-ltb o.worker (2 ^ 16) i.worker)
      (and_from (nat_lt o.boot (2 ^ 32)) _ (lt-ltb o.boot (2 ^ 32) i.boot)
      (and_from (nat_lt o.number (2 ^ 32)) _ (lt-ltb o.number (2 ^ 32) i.number)
      (and_from (nat_lt o.site (2 ^ 16)) (nat_lt o.index (2 ^ 16)) (lt-ltb o.site (2 ^ 16) i.site) (lt-ltb o.index (2 ^ 16) i.index)))))

  pub passes_held : fits_name rights o ≡ true → IsTrue (may_hold rights o.store o.class)
  passes_held h = (and_parts (may_hold rights o.store o.class) (is_spelled o) h).0

  pub passes_spelled : HasFew rights → fits_name rights o ≡ true → IsOid o
  passes_spelled few h =
      let one = and_parts (may_hold rights o.store o.class) (is_spelled o) h in
      let two = and_parts (nat_lt o.worker (2 ^ 16)) _ one.1 in
      let three = and_parts (nat_lt o.boot (2 ^ 32)) _ two.1 in
      let four = and_parts (nat_lt o.number (2 ^ 32)) _ three.1 in
      let five = and_parts (nat_lt o.site (2 ^ 16)) (nat_lt o.index (2 ^ 16)) four.1 in
      let held = few o.store o.class one.0 in
      record {
        store = let a = held.0 in omega (arith, a);
        class = let a = held.1 in omega (arith, a);
        worker = ltb-true o.worker (2 ^ 16) two.0;
        boot = ltb-true o.boot (2 ^ 32) three.0;
        number = ltb-true o.number (2 ^ 32) four.0;
        site = ltb-true o.site (2 ^ 16) five.0;
        index = ltb-true o.index (2 ^ 16) five.1;
      }

pub name_passes : (S : Setting) (o : Oid) → IsFitName S o → fits_name S.rights o ≡ true
name_passes S o h = held_passes S.rights o h.placed h.spelled

pub name_fits : (S : Setting) → HasFew S.rights → (o : Oid) → fits_name S.rights o ≡ true → IsFitName S o
name_fits S few o h = record { placed = passes_held S.rights o h; spelled = passes_spelled S.rights o few h }

-- ---- values

module _ (rights : Rights) where
  abbrev p : Oid → Bool
  p = fits_name rights

  -- what a field may hold, and a message can spell, passes
  value_passes : (f : Shape) (v : Value) → IsTrue (computed.fits_field rights f v) → IsValue sent_version v → Passes p v
  value_passes (shapes.Number w) v h i = number_leads_nowhere _ w v h
  value_passes (shapes.Class class) (Int n) h i = tt
  value_passes (shapes.Class class) Null h i = tt
  value_passes (shapes.Class class) (Ref o) h i =
      let both = and_parts (o.class == class) (may_hold rights o.store class) h in
      let same : o.class ≡ class = grind (arith, nat_tests, both.0) in
      let held : IsTrue (may_hold rights o.store o.class) = subst (λ c. IsTrue (may_hold rights o.store c)) (sym same) both.1 in
      held_passes rights o held i

  values_pass : (fs : List Shape) (vs : List Value) → IsTrue (computed.fit_fields rights fs vs) → AllByRecursion (IsValue sent_version) vs → AllPass p vs
  values_pass [] [] h i = tt
  values_pass [] (v ∷ vs) h i = absurd (true≢false (sym h))
  values_pass (f ∷ fs) [] h i = absurd (true≢false (sym h))
  values_pass (f ∷ fs) (v ∷ vs) h i =
      let both = and_parts (computed.fits_field rights f v) (computed.fit_fields rights fs vs) h in
      (value_passes f v both.0 i.0, values_pass fs vs both.1 i.1)

  class_passes : (o : Option ClassRights) (x : Object) → IsTrue (computed.fits_class rights o x) → AllByRecursion (IsValue sent_version) x.fields → AllPass p x.fields
  class_passes None x h i = absurd (true≢false (sym h))
  class_passes (Some c) x h i = values_pass c.fields x.fields h i

  -- a value of a field's kind that passes is one that the field may hold
  value_held : (s : Sort) (v : Value) → suits (kind_of_sort s) v ≡ true → Passes p v → IsTrue (computed.fits_field rights (places.shape_of_sort s) v)
  value_held (sorts.Number w) v h i = h
  value_held (sorts.Class x) (Int n) h i = absurd (true≢false (sym h))
  value_held (sorts.Class x) Null h i = refl
  value_held (sorts.Class x) (Ref o) h i =
      let same : o.class ≡ x.number = grind (arith, nat_tests, h) in
      and_from (o.class == x.number) (may_hold rights o.store x.number) h
      (subst (λ c. IsTrue (may_hold rights o.store c)) same (passes_held rights o i))

  fields_held : (fs : List Field) (vs : List Value) → AllSuit (map (λ f. kind_of_sort f.sort) fs) vs → AllPass p vs
      → IsTrue (computed.fit_fields rights (map places.shape_of fs) vs)
  fields_held [] [] h i = refl
  fields_held [] (v ∷ vs) h i = absurd h
  fields_held (f ∷ fs) [] h i = absurd h
  fields_held (f ∷ fs) (v ∷ vs) h i =
      and_from (computed.fits_field rights (places.shape_of f) v) (computed.fit_fields rights (map places.shape_of fs) vs)
      (value_held f.sort v h.0 i.0) (fields_held fs vs h.1 i.1)

  -- where a store holds the class, it is known, and its fields are those of the bundle
  class_held : (rs : List ClassRights) (cs : List Class) → map (λ c. c.fields) rs ≡ map (λ c. map places.shape_of c.fields) cs → (n store : ℕ) (x : Object)
      → IsTrue (computed.holds (slice_get rs n) store) → AllSuit (class_kinds cs n) x.fields → AllPass p x.fields → IsTrue (computed.fits_class rights (slice_get rs n) x)
  class_held [] cs e n store x h i k = absurd (true≢false (sym h))
  class_held (r ∷ rs) [] e n store x h i k = cc
  class_held (r ∷ rs) (c ∷ cs) e zero store x h i k =
      let same : r.fields ≡ map places.shape_of c.fields = cc in
      subst (λ fs. IsTrue (computed.fit_fields rights fs x.fields)) (sym same) (fields_held c.fields x.fields i k)
  class_held (r ∷ rs) (c ∷ cs) e (suc n) store x h i k =
      let rest : map (λ c. c.fields) rs ≡ map (λ c. map places.shape_of c.fields) cs = cc in
      class_held rs cs rest n store x h i k

  -- a value that passes and is within 32 bits can be spelled
  pub value_spelled : HasFew rights → (v : Value) → Passes p v → IsSmall v → IsValue sent_version v
  value_spelled few (Int n) h i = i
  value_spelled few Null h i = tt
  value_spelled few (Ref o) h i = passes_spelled rights o few h

  values_spelled : HasFew rights → (vs : List Value) → AllPass p vs → AllFit vs → AllByRecursion (IsValue sent_version) vs
  values_spelled few [] h i = tt
  values_spelled few (v ∷ vs) h i = (value_spelled few v h.0 i.0, values_spelled few vs h.1 i.1)

small_value : (v : Value) → IsValue sent_version v → IsSmall v
small_value (Int n) h = h
small_value Null h = tt
small_value (Ref o) h = tt

small_values : (vs : List Value) → AllByRecursion (IsValue sent_version) vs → AllFit vs
small_values [] h = tt
small_values (v ∷ vs) h = (small_value v h.0, small_values vs h.1)

-- ---- objects, over the setting of a program

-- an object under a name has the shape of its class; its name and those in it pass, and its numbers are within 32 bits
pub record IsSound (program : Resolved) (rights : Rights) (o : Oid) (x : Object) : Type 0 where
  pub name : fits_name rights o ≡ true
  pub shape : IsShaped program.classes o x
  pub references : AllPass (fits_name rights) x.fields
  pub numbers : AllFit x.fields

module _ (S : Setting) (program : Resolved) (n : ℕ) (fits : IsProgramOf program n S.rights) (few : HasFew S.rights) where
  pub sound_of : (o : Oid) (x : Object) → IsFit S (o, x) → IsSound program S.rights o x
  sound_of o x h =
      let form = and_parts (computed.is_well_formed S.rights x) (x.class == o.class) h.suited in
      record {
        name = name_passes S o h.name;
        shape = answer_shaped program n S.rights o x fits h.suited;
        references = class_passes S.rights (slice_get S.rights.classes x.class) x form.0 h.spelled.fields;
        numbers = small_values x.fields h.spelled.fields;
      }

  pub fit_of : (o : Oid) (x : Object) → IsSound program S.rights o x → IsFit S (o, x)
  fit_of o x h =
      let name = name_fits S few o h.name in
      let class = h.shape.class in
      let formed : IsTrue (computed.is_well_formed S.rights x) =
      subst (λ c. IsTrue (computed.fits_class S.rights (slice_get S.rights.classes c) x)) (sym class)
      (class_held S.rights S.rights.classes program.classes fits.shapes o.class o.store x name.placed h.shape.fields h.references) in
      record {
        name = name;
        suited = and_from (computed.is_well_formed S.rights x) (x.class == o.class) formed (grind (arith, nat_tests, class));
        spelled = record {
          class = let a = name.spelled.class in omega (arith, a, class);
          count = few_fields program.classes fits.fields o x h.shape;
          fields = values_spelled S.rights few x.fields h.references h.numbers;
        };
      }
