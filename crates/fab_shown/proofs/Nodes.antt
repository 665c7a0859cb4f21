-- The numbers of the rights are numbers of nodes, and that of an object that suits its name is a class's.
use Rattle.std.proofs.Common.{◌≡◌, inl, inr, ℕ, ◌==◌, Bool, true, false, cond, IsTrue, List, [], ◌∷◌, map, length, Option, Some, None, refl, sym, ap, ◌∙◌, true≢false, arith}
use Rattle.std.specs.Prelude.{slice_get, find, option_map, IsSome, IsSomeAnd}
use Rattle.std.proofs.lemmas.Bool.{and_parts, or_cases, eqb-true}
use Rattle.std.proofs.lemmas.List.{length-map}
use Rattle.std.proofs.lemmas.Option.{slice_get_within}
use Rattle.fab_settings.proofs.Posts.{place_further}
use Rattle.fab_base.specs.declared.object.Object.{Object}
use Rattle.fab_base.specs.declared.object.Oid.{Oid}
use Rattle.fab_tree.specs.declared.declaration.Role.{Role}
use Rattle.fab_tree.specs.declared.resolved.Class.{Class}
use Rattle.fab_tree.specs.declared.resolved.Principal.{Principal}
use Rattle.fab_tree.specs.declared.resolved.Resolved.{Resolved}
use Rattle.fab_language.specs.Names as names
use Rattle.fab_language.specs.Words.{has_number}
use Rattle.fab_labelling.specs.Placement.{role_of}
use Rattle.fab_labelling.specs.Readers.{is_numbered, place_from, principal_of}
use Rattle.fab_places.specs.Places.{AreRights, shape_of}
use Rattle.fab_rights.specs.declared.rights.ClassRights.{ClassRights}
use Rattle.fab_rights.specs.declared.rights.Rights.{Rights}
use Rattle.fab_rights.specs.Computed.{fits_class, is_node, is_store, is_well_formed, is_worker, suits}
use Rattle.fab_rights.proofs.Bits.{has_bit_exact}
use Rattle.fab_reports.specs.Showable.{IsClass, IsNode}

-- ---- numbers of the rights

same_test : (n : ℕ) (o : Option ℕ) → is_numbered n o ≡ has_number n o
same_test n None = refl
same_test n (Some m) = refl

-- a principal at the place of a number has the number
placed_has : (n : ℕ) (xs : List Principal) (x : Principal) → slice_get xs (place_from 0 n xs) ≡ Some x → IsSome (find (λ y. has_number n y.node) xs)
placed_has n [] x h = let no : None ≡ Some x = h in cc
placed_has n (y ∷ ys) x h = by (is_numbered n y.node) (has_number n y.node) (same_test n y.node) h (placed_has n ys x)
  where
    by : (b c : Bool) → b ≡ c → slice_get (y ∷ ys) (cond b 0 (place_from 1 n ys)) ≡ Some x
        → (slice_get ys (place_from 0 n ys) ≡ Some x → IsSome (find (λ (z : Principal). has_number n z.node) ys))
        → IsSome (cond c (Some y) (find (λ (z : Principal). has_number n z.node) ys))
    by true true e g later = refl
    by true false e g later = absurd (true≢false e)
    by false true e g later = refl
    by false false e g later = later (sym (ap (slice_get (y ∷ ys)) (place_further 0 n ys)) ∙ g)

some_role : (P : Role → Type 0) (o : Option Principal) → IsSomeAnd (option_map (λ x. x.role) o) P → (x : Principal) × (o ≡ Some x)
some_role P None h = absurd h
some_role P (Some x) h = (x, refl)

role_node : (r : Resolved) (n : ℕ) (P : Role → Type 0) → IsSomeAnd (role_of r n) P → IsNode r n
role_node r n P h = let x = some_role P (slice_get r.nodes (principal_of r n)) h in placed_has n r.nodes x.0 x.1

-- a node of the rights is one of the bundle
pub rights_node : (r : Resolved) (rights : Rights) → AreRights r rights → (n : ℕ) → IsTrue (is_node rights n) → IsNode r n
rights_node r rights are n h = elim (or_cases (is_worker rights n) (is_store rights n) h) [
  | inl worker ↦ role_node r n (λ x. IsTrue (names.is_worker x)) ((are.workers n).0 ((has_bit_exact rights.workers n).0 worker))
  | inr store ↦ role_node r n (λ x. IsTrue (names.is_store x)) ((are.stores n).0 ((has_bit_exact rights.stores n).0 store))
]

-- ---- classes

some_class : (rights : Rights) (o : Option ClassRights) (x : Object) → fits_class rights o x ≡ true → (c : ClassRights) × (o ≡ Some c)
some_class rights None x h = absurd (true≢false (sym h))
some_class rights (Some c) x h = (c, refl)

as_many_classes : (r : Resolved) (rights : Rights) → AreRights r rights → length rights.classes ≡ length r.classes
as_many_classes r rights are =
    sym (length-map rights.classes (λ (c : ClassRights). c.fields)) ∙ ap length are.shapes ∙ length-map r.classes (λ (c : Class). map shape_of c.fields)

-- an object that suits a name has the class of the name, which is one of the bundle
pub suited_class : (r : Resolved) (rights : Rights) → AreRights r rights → (o : Oid) (x : Object) → suits rights o x ≡ true → IsClass r o.class
suited_class r rights are o x h =
    let both = and_parts (is_well_formed rights x) (x.class == o.class) h in
    let c = some_class rights (slice_get rights.classes x.class) x both.0 in
    let low = slice_get_within rights.classes x.class c.0 c.1 in
    let same = eqb-true x.class o.class both.1 in
    let many = as_many_classes r rights are in
    omega (arith, low, same, many)
