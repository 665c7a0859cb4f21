-- What an accepted bundle gives: its roots fit, and what its requests give has fitting names and numbers within 32 bits.
use Rattle.std.proofs.Common.{◌≡◌, ℕ, zero, suc, ◌+◌, ◌-◌, ◌^◌, ◌<◌, ◌≤◌, ◌==◌, Bool, true, false, nat_lt, cond, if◌then◌else◌, IsTrue, List, [], ◌∷◌, ◌++◌, map, length, Option, Some, None, refl, ap, ◌∙◌, arith}
use Rattle.std.specs.Prelude.{slice_get, find}
use Rattle.std.specs.List.{AllByRecursion, flat_map}
use Rattle.std.proofs.lemmas.Bool.{and_from, lt-ltb}
use Rattle.fab_base.specs.declared.object.Oid.{Oid}
use Rattle.fab_base.specs.declared.object.Object.{Object}
use Rattle.fab_base.specs.declared.object.Value.{Value}
use Rattle.fab_base.specs.FlatMap.{FlatMap, get, ascends}
use Rattle.fab_base.proofs.Lists.{all_split, at_index, all_two}
use Rattle.fab_map.proofs.Rows.{ascends-put_all}
use Rattle.fab_tree.specs.declared.start.Literal.{Literal}
use Rattle.fab_tree.specs.declared.start.Literal.TheVariants as literals
use Rattle.fab_tree.specs.declared.start.Given.{Given}
use Rattle.fab_tree.specs.declared.start.Root.{Root}
use Rattle.fab_tree.specs.declared.start.RequestText.{RequestText}
use Rattle.fab_tree.specs.declared.start.Session.{Session as SessionText}
use Rattle.fab_tree.specs.declared.start.Start.{Start}
use Rattle.fab_tree.specs.declared.resolved.Asked.{Asked}
use Rattle.fab_tree.specs.declared.resolved.Request.{Request}
use Rattle.fab_tree.specs.declared.resolved.Root.{Root as NumberedRoot}
use Rattle.fab_tree.specs.declared.resolved.Session.{Session}
use Rattle.fab_tree.specs.declared.resolved.Resolved.{Resolved}
use Rattle.fab_tree.specs.declared.expression.Number.TheVariants as numbers
use Rattle.fab_language.specs.Evaluation.{rows_of, map_at_start}
use Rattle.fab_language.specs.Names.{named, number_of, root_name}
use Rattle.fab_language.specs.Numbers.{oid_of, reference_to, value_of, values_of, root_of, roots_from, asked_from, session_of, resolved}
use Rattle.fab_laws.specs.Origins.{Passes, AllPass}
use Rattle.fab_laws.specs.Shapes.{IsFitting}
use Rattle.fab_shapes.proofs.Maps.{each_of_map}
use Rattle.fab_shapes.proofs.Named.{at_number}
use Rattle.fab_shapes.proofs.Objects.{objects_have_shapes}
use Rattle.fab_held.specs.Held.{IsHeld}
use Rattle.fab_held.proofs.Made.{roots_held}
use Rattle.fab_rights.specs.Computed.{may_hold}
use Rattle.fab_rights.specs.declared.rights.Rights.{Rights}
use Rattle.fab_world.specs.Machine.{Setting}
use Rattle.fab_world.specs.Serial.{IsFit, AreFit}
use Rattle.fab_attempts.specs.Sessions.{IsProgramOf, requests_in, requests_of}
use Rattle.fab_attempts.proofs.Programs.{program_of}
use Rattle.fab_attempts.proofs.Rows.{all_rows}
use Rattle.fab_settings.specs.Numbers.{in_session, in_method}
use Rattle.fab_settings.specs.Settings.{IsAcceptedWith, setting_of, request_at}
use Rattle.fab_settings.proofs.Ranges.{AllFit, IsSmall}
use Rattle.fab_settings.proofs.Fitting.{is_spelled, fits_name, HasFew, IsSound, fit_of}
use Rattle.fab_settings.proofs.Nodes.{few_roots, has_few, number_holds}

-- ---- requests of one session

-- what holds of each request of each session holds of those of one that is found
of_found : (P : Request → Type 0) (test : Session → Bool) (xs : List Session) → AllByRecursion (λ x. AllByRecursion P (requests_in (Some x))) xs
    → AllByRecursion P (requests_in (find test xs))
of_found P test [] h = tt
of_found P test (x ∷ xs) h =
    elim (test x) as (λ b. AllByRecursion P (requests_in (cond b (Some x) (find test xs)))) [
      | true ↦ h.0
      | false ↦ of_found P test xs h.1
    ]

small_requests : (xs : List Session) → AllFit (flat_map in_session xs) → AllByRecursion (λ x. AllByRecursion (λ q. AllFit q.args) (requests_in (Some x))) xs
small_requests [] h = tt
small_requests (x ∷ xs) h =
    let p = all_split IsSmall (in_session x) (flat_map in_session xs) h in
    (each x.requests p.0, small_requests xs p.1)
  where
    each : (ys : List Asked) → AllFit (flat_map (λ (y : Asked). y.request.args) ys) → AllByRecursion (λ q. AllFit q.args) (map (λ (y : Asked). y.request) ys)
    each [] h = tt
    each (y ∷ ys) h =
        let p = all_split IsSmall (y.request.args) (flat_map (λ (z : Asked). z.request.args) ys) h in
        (p.0, each ys p.1)

-- ---- the roots

module _ (s : Start) where
  root_at : (roots : List Root) (k i : ℕ) (x : Root) → slice_get roots i ≡ Some x → slice_get (roots_from s k roots) i ≡ Some (root_of s (k + i) x)
  root_at [] k i x e = absurd (cc)
  root_at (y ∷ ys) k zero x e =
      let same : y ≡ x = cc in
      let number : k ≡ k + 0 = omega arith in
      ap (λ w. Some (root_of s k w)) same ∙ ap (λ j. Some (root_of s j x)) number
  root_at (y ∷ ys) k (suc i) x e =
      let number : suc k + i ≡ k + suc i = omega arith in
      root_at ys (suc k) i x e ∙ ap (λ j. Some (root_of s j x)) number

  spelled_from : (roots : List Root) (k : ℕ) → k + length roots ≤ 100000 → AllByRecursion (λ y. is_spelled y.oid ≡ true) (roots_from s k roots)
  spelled_from [] k h = tt
  spelled_from (x ∷ xs) k h =
      let below : k < 2 ^ 32 = omega (arith, h) in
      (and_from (nat_lt k (2 ^ 32)) true (lt-ltb k (2 ^ 32) below) refl, spelled_from xs (suc k) (omega (arith, h)))

  old_from : (roots : List Root) (k : ℕ) → AllByRecursion (λ row. row.0.boot ≡ 0) (rows_of (roots_from s k roots))
  old_from [] k = tt
  old_from (x ∷ xs) k = (refl, old_from xs (suc k))

-- what holds of each root holds of its row
of_rows : (P : Oid → List Value → Type 0) (xs : List NumberedRoot) → AllByRecursion (λ x. P x.oid x.values) xs → AllByRecursion (λ row. P row.0 row.1.fields) (rows_of xs)
of_rows P [] h = tt
of_rows P (x ∷ xs) h = (h.0, of_rows P xs h.1)

small_roots : (xs : List NumberedRoot) → AllFit (flat_map (λ x. x.values) xs) → AllByRecursion (λ x. AllFit x.values) xs
small_roots [] h = tt
small_roots (x ∷ xs) h =
    let p = all_split IsSmall (x.values) (flat_map (λ (y : NumberedRoot). y.values) xs) h in
    (p.0, small_roots xs p.1)

-- ---- an accepted bundle

module _ (s : Start) (rights : Rights) (a : IsAcceptedWith s rights) where
  abbrev pub bundle : Resolved
  bundle = resolved s

  abbrev pub S : Setting
  S = setting_of (resolved s) rights

  abbrev p : Oid → Bool
  p = fits_name rights

  pub few : HasFew rights
  few = has_few s rights a.within a.rights_are a.stores

  pub fits : (n : ℕ) → IsProgramOf (resolved s) n rights
  fits n = program_of s n rights a.within a.named a.rights_are

  -- ---- numbers

  three : AllFit (flat_map in_method bundle.methods ++ flat_map (λ x. x.values) bundle.roots) × AllFit (flat_map in_session bundle.sessions)
  three = all_split IsSmall (flat_map in_method bundle.methods ++ flat_map (λ x. x.values) bundle.roots) (flat_map in_session bundle.sessions) a.numbers

  two : AllFit (flat_map in_method bundle.methods) × AllFit (flat_map (λ x. x.values) bundle.roots)
  two = all_split IsSmall (flat_map in_method bundle.methods) (flat_map (λ x. x.values) bundle.roots) three.0

  pub program_small : AllFit (flat_map in_method bundle.methods)
  program_small = two.0

  -- ---- names

  roots_pass : AllByRecursion (λ x. p x.oid ≡ true) bundle.roots
  roots_pass =
      all_two (λ x. IsHeld bundle x.oid) (λ x. is_spelled x.oid ≡ true) (λ x. p x.oid ≡ true) (λ x held spelled. and_from (may_hold rights x.oid.store x.oid.class) (is_spelled x.oid)
      (number_holds bundle rights a.rights_are x.oid.store x.oid.class held) spelled)
      bundle.roots
      (roots_held bundle a.labelled)
      (spelled_from s s.roots 0 (let n = few_roots s a.within in omega (arith, n)))

  root_passes : (i : ℕ) (x : Root) → slice_get s.roots i ≡ Some x → p (oid_of s i x) ≡ true
  root_passes i x e =
      let number : 0 + i ≡ i = omega arith in
      at_index (λ y. p y.oid ≡ true) bundle.roots i (root_of s i x) roots_pass (root_at s s.roots 0 i x e ∙ ap (λ j. Some (root_of s j x)) number)

  literal_passes : (l : Literal) → Passes p (value_of s l)
  literal_passes (literals.Number (numbers.Int i)) = tt
  literal_passes literals.Null = tt
  literal_passes (literals.Root x) = by (named root_name s.roots x) refl
    where
      by : (o : Option Root) → named root_name s.roots x ≡ o → Passes p (reference_to s (number_of root_name s.roots x) o)
      by None e = tt
      by (Some y) e = root_passes (number_of root_name s.roots x) y (at_number root_name s.roots x y e)

  given_pass : (gs : List Given) → AllPass p (values_of s gs)
  given_pass [] = tt
  given_pass (g ∷ gs) = (literal_passes g.literal, given_pass gs)

  roots_given : (roots : List Root) (k : ℕ) → AllByRecursion (λ x. AllPass p x.values) (roots_from s k roots)
  roots_given [] k = tt
  roots_given (x ∷ xs) k = (given_pass x.values, roots_given xs (suc k))

  -- ---- the objects of roots

  abbrev start : FlatMap
  start = map_at_start bundle

  root_sound : (o : Oid) (x : Object) → get start o ≡ Some x → IsSound bundle rights o x
  root_sound o x e = record {
    name = each_of_map (λ q y. p q ≡ true) (rows_of bundle.roots) (of_rows (λ q vs. p q ≡ true) bundle.roots roots_pass) o x e;
    shape = objects_have_shapes s a.named o x e;
    references = each_of_map (λ q y. AllPass p y.fields) (rows_of bundle.roots) (of_rows (λ q vs. AllPass p vs) bundle.roots (roots_given s.roots 0)) o x e;
    numbers = each_of_map (λ q y. AllFit y.fields) (rows_of bundle.roots) (of_rows (λ q vs. AllFit vs) bundle.roots (small_roots bundle.roots two.1)) o x e;
  }

  pub roots_ascend : IsTrue (ascends start)
  roots_ascend = ascends-put_all (rows_of bundle.roots) [] refl

  pub roots_fit : AreFit S start
  roots_fit = all_rows (λ o x. IsFit S (o, x)) start roots_ascend (λ o x e. fit_of S bundle 0 (fits 0) few o x (root_sound o x e))

  pub roots_old : AllByRecursion (λ row. row.0.boot ≡ 0) start
  roots_old = all_rows (λ o x. o.boot ≡ 0) start roots_ascend (each_of_map (λ o x. o.boot ≡ 0) (rows_of bundle.roots) (old_from s s.roots 0))

  -- ---- requests

  asked_pass : (xs : List RequestText) (worker k : ℕ) → AllByRecursion (λ q. AllPass p q.args) (map (λ (y : Asked). y.request) (asked_from s worker k xs))
  asked_pass [] worker k = tt
  asked_pass (x ∷ xs) worker k = (given_pass x.arguments, asked_pass xs worker (suc k))

  sessions_pass : (xs : List SessionText) → AllByRecursion (λ x. AllByRecursion (λ q. AllPass p q.args) (requests_in (Some x))) (map (session_of s) xs)
  sessions_pass [] = tt
  sessions_pass (x ∷ xs) = (asked_pass x.requests (session_of s x).worker.number 1, sessions_pass xs)

  -- what a request gives is of its method's kinds, its names pass, and its numbers are within 32 bits
  pub record IsSoundRequest (q : Request) : Type 0 where
    pub fitting : IsFitting bundle q
    pub names : AllPass p q.args
    pub numbers : AllFit q.args

  pub asked_sound : (n number : ℕ) (q : Request) → request_at bundle n number ≡ Some q → IsSoundRequest q
  asked_sound n number q e = by (number == 0) e
    where
      by : (b : Bool) → (if b then None else slice_get (requests_of bundle n) (number - 1)) ≡ Some q → IsSoundRequest q
      by true h = absurd (cc)
      by false h = record {
        fitting = at_index (IsFitting bundle) (requests_of bundle n) (number - 1) q (fits n).requests h;
        names =
            at_index (λ x. AllPass p x.args) (requests_of bundle n) (number - 1) q
            (of_found (λ x. AllPass p x.args) (λ x. x.worker.number == n) bundle.sessions (sessions_pass s.sessions)) h;
        numbers =
            at_index (λ x. AllFit x.args) (requests_of bundle n) (number - 1) q
            (of_found (λ x. AllFit x.args) (λ x. x.worker.number == n) bundle.sessions (small_requests bundle.sessions three.1)) h;
      }
