-- Touches: what noting one more does to the list of pairs and to the objects among them.
use Rattle.std.proofs.Common.{◌≡◌, ℕ, ◌<◌, ◌≤◌, Bool, true, false, not, ◌&&◌, ◌==◌, if◌then◌else◌, List, [], ◌∷◌, ◌++◌, length, map, refl, sym, ap, ◌∙◌, arith}
use Rattle.std.specs.List.{list_any}
use Rattle.std.proofs.lemmas.List.{map-append}
use Rattle.std.proofs.lemmas.Bool.{true≢false}
use Rattle.std.proofs.lemmas.Bool.Decides.{nat_tests}
use Rattle.fab_base.specs.declared.object.Oid.{Oid}
use Rattle.fab_base.specs.FlatMap.{is_same}
use Rattle.fab_base.specs.contracts.object.OidPartialEq as oids
use Rattle.std.specs.contracts.prelude.U16PartialEq as numbers
use Rattle.fab_language.specs.Heaps.{is_among, each_once, touched, noted, is_full}
use Rattle.fab_language.proofs.Touches.{among_once, once_more}
use Rattle.fab_nested.proofs.Naming.{eq_is, same_any, among_by}

pair_is : (site : ℕ) (o : Oid) (t : ℕ × Oid) → (numbers.TheImpl.ghosts.eq site t.0 && oids.TheImpl.ghosts.eq o t.1) ≡ ((t.0 == site) && is_same t.1 o)
pair_is site o t = grind (arith, nat_tests, eq_is o t.1)

noted_by : (site : ℕ) (o : Oid) (ts : List (ℕ × Oid)) → list_any (λ (t : ℕ × Oid). numbers.TheImpl.ghosts.eq site t.0 && oids.TheImpl.ghosts.eq o t.1) ts ≡ list_any (λ (t : ℕ × Oid). (t.0 == site) && is_same t.1 o) ts
noted_by site o ts = same_any _ _ (pair_is site o) ts

-- ---- names among names

objects_more : (site : ℕ) (o : Oid) (ts : List (ℕ × Oid)) → touched (ts ++ (site, o) ∷ []) ≡ (if is_among o (touched ts) then touched ts else touched ts ++ o ∷ [])
objects_more site o ts =
    let objects : List Oid = map (λ (t : ℕ × Oid). t.1) ts in
    ap each_once (map-append (λ (t : ℕ × Oid). t.1) ts ((site, o) ∷ [])) ∙ once_more o objects ∙ rw (among_once o objects) refl

-- an object that is touched already
known : (site : ℕ) (o : Oid) (ts : List (ℕ × Oid)) → list_any (λ (t : ℕ × Oid). (t.0 == site) && is_same t.1 o) ts ≡ true → is_among o (touched ts) ≡ true
known site o ts h = among_once o (map (λ (t : ℕ × Oid). t.1) ts) ∙ along ts h
  where
    along : (xs : List (ℕ × Oid)) → list_any (λ (t : ℕ × Oid). (t.0 == site) && is_same t.1 o) xs ≡ true → is_among o (map (λ (t : ℕ × Oid). t.1) xs) ≡ true
    along [] h = h
    along (x ∷ xs) h = grind (arith, nat_tests, along xs)

-- noting a pair of an object that is touched already
noted_known : (site : ℕ) (o : Oid) (ts : List (ℕ × Oid)) → is_among o (touched ts) ≡ true → touched (noted site o ts) ≡ touched ts
noted_known site o ts h =
    elim (list_any (λ (t : ℕ × Oid). (t.0 == site) && is_same t.1 o) ts) as (λ b. touched (if b then ts else ts ++ (site, o) ∷ []) ≡ touched ts) [
      | true ↦ refl
      | false ↦ objects_more site o ts ∙ rw h refl
    ]

-- noting a pair of one object more
noted_new : (site : ℕ) (o : Oid) (ts : List (ℕ × Oid)) → is_among o (touched ts) ≡ false → touched (noted site o ts) ≡ touched ts ++ o ∷ []
noted_new site o ts h =
    elim (list_any (λ (t : ℕ × Oid). (t.0 == site) && is_same t.1 o) ts) as (λ b. list_any (λ (t : ℕ × Oid). (t.0 == site) && is_same t.1 o) ts ≡ b → touched (if b then ts else ts ++ (site, o) ∷ []) ≡ touched ts ++ o ∷ []) [
      | true ↦ λ e. absurd (true≢false (sym (known site o ts e) ∙ h))
      | false ↦ λ e. objects_more site o ts ∙ rw h refl
    ] refl

-- ---- the steps of `reach`, over the sets' lists and the list that contracts see
module _ (site : ℕ) (o : Oid) (b : Bool) (ts now new : List (ℕ × Oid)) (os : List Oid) (seen : ts ≡ now) (i : os ≡ touched ts) where
  abbrev PairTold : Type 0
  PairTold = b ≡ list_any (λ (t : ℕ × Oid). numbers.TheImpl.ghosts.eq site t.0 && oids.TheImpl.ghosts.eq o t.1) ts

  abbrev ObjectTold : Type 0
  ObjectTold = b ≡ list_any (λ (p : Oid). oids.TheImpl.ghosts.eq o p) os

  abbrev PairPut : Type 0
  PairPut = new ≡ (if list_any (λ (t : ℕ × Oid). numbers.TheImpl.ghosts.eq site t.0 && oids.TheImpl.ghosts.eq o t.1) ts then ts else ts ++ (site, o) ∷ [])

  pair_there : PairTold → b ≡ true → list_any (λ (t : ℕ × Oid). (t.0 == site) && is_same t.1 o) now ≡ true
  pair_there h t = ap (list_any (λ (x : ℕ × Oid). (x.0 == site) && is_same x.1 o)) (sym seen) ∙ sym (noted_by site o ts) ∙ sym h ∙ t

  pub pair_fits : PairTold → b ≡ true → true ≡ not (is_full o (touched now))
  pair_fits h t = rw (known site o now (pair_there h t)) refl

  pub pair_stays : PairTold → b ≡ true → now ≡ noted site o now
  pair_stays h t = rw (pair_there h t) refl

  pub put_noted : PairPut → new ≡ noted site o now
  put_noted h = h ∙ rw (noted_by site o ts) refl ∙ ap (noted site o) seen

  object_told : ObjectTold → is_among o (touched ts) ≡ b
  object_told h = ap (is_among o) (sym i) ∙ sym (among_by o os) ∙ sym h

  object_told_now : ObjectTold → is_among o (touched now) ≡ b
  object_told_now h = ap (λ l. is_among o (touched l)) (sym seen) ∙ object_told h

  pub object_fits : ObjectTold → b ≡ true → true ≡ not (is_full o (touched now))
  object_fits h t = rw (object_told_now h ∙ t) refl

  pub too_many : ObjectTold → b ≡ false → 1024 ≤ length os → false ≡ not (is_full o (touched now))
  too_many h t le =
      let n : length (touched now) ≡ length os = ap (λ l. length (touched l)) (sym seen) ∙ sym (ap length i) in
      rw (object_told_now h ∙ t) (grind (arith, nat_tests))

  pub one_fits : ObjectTold → b ≡ false → length os < 1024 → true ≡ not (is_full o (touched now))
  one_fits h t lt =
      let n : length (touched now) ≡ length os = ap (λ l. length (touched l)) (sym seen) ∙ sym (ap length i) in
      rw (object_told_now h ∙ t) (grind (arith, nat_tests))

  pub objects_stay : ObjectTold → b ≡ true → PairPut → os ≡ touched new
  objects_stay h t e = i ∙ sym (noted_known site o ts (object_told h ∙ t)) ∙ ap touched (sym (e ∙ rw (noted_by site o ts) refl))

  -- a pair that isn't there goes last
  pub pair_pushed : PairTold → b ≡ false → new ≡ ts ++ (site, o) ∷ [] → PairPut
  pair_pushed h t e = e ∙ rw (sym h ∙ t) refl

  pub objects_grow : (all : List Oid) → ObjectTold → b ≡ false → all ≡ os ++ o ∷ [] → PairPut → all ≡ touched new
  objects_grow all h t a e =
      a ∙ ap (λ l. l ++ o ∷ []) i ∙ sym (noted_new site o ts (object_told h ∙ t)) ∙ ap touched (sym (e ∙ rw (noted_by site o ts) refl))
