-- Entries told part by part.
use Rattle.std.proofs.Common.{◌≡◌, ℕ, ◌+◌, ◌<◌, ◌≤◌, Bool, true, false, not, ◌&&◌, ◌||◌, if◌then◌else◌, List, [], ◌∷◌, ◌++◌, map, drop, length, get_or, refl, sym, ap, ◌∙◌, append-nil, append_assoc}
use Rattle.std.specs.List.{filter, flat_map}
use Rattle.std.proofs.lemmas.List.{map-append}
use Rattle.indexmap.specs.IndexSet.{insert_key}
use Rattle.fab_base.specs.declared.object.Oid.{Oid}
use Rattle.fab_base.specs.declared.object.Value.{Value}
use Rattle.fab_base.specs.FlatMap.{is_among, is_same}
use Rattle.fab_base.specs.contracts.object.OidPartialEq as oids
use Rattle.fab_base.proofs.Lists.{front_at}
use Rattle.fab_authority.proofs.Walks as walks
use Rattle.fab_release.specs.declared.release.Release.{Release}
use Rattle.fab_release.specs.declared.release.Release.TheVariants.{Down, Got}
use Rattle.fab_release.specs.declared.release.Released.{Released}
use Rattle.fab_release.specs.Record.{downs_to, gots_to, is_in_view}
use Rattle.fab_release.specs.Sights.{Sight}
use Rattle.fab_record.proofs.Gathering.{past_end}
use Rattle.fab_record.proofs.Naming.{among_append, names_more}
use Rattle.fab_record.specs.Kept.{AreSame}
use Rattle.fab_record.specs.Places.{entry_if, told}

pub in_parts : (quiet : Bool) (out : List Released) (xs ys : List Release) → told quiet out (xs ++ ys) ≡ told quiet (told quiet out xs) ys
unfolding told
in_parts quiet out xs ys =
    ap (λ (l : List Released). out ++ l) (map-append (λ (x : Release). let r : Released = record { quiet = quiet; release = x } in r) xs ys) ∙ sym (append_assoc out _ _)

pub nothing : (quiet : Bool) (out : List Released) → told quiet out [] ≡ out
unfolding told
nothing quiet out = append-nil out

-- ---- objects that are touched in view for the first time

abbrev Touch : Type 0
Touch = ℕ × Oid × ℕ

module _ (sight : Sight) (w : ℕ) where
  in_both : (o : Oid) (os ps : List Oid) → AreSame os ps → AreSame (o ∷ os) (o ∷ ps)
  in_both o os ps h p = ap (λ b. is_same o p || b) (h p)

  pub gots_alike : (os ps : List Oid) (ts : List Touch) → AreSame os ps → gots_to sight w os ts ≡ gots_to sight w ps ts
  gots_alike os ps [] h = refl
  gots_alike os ps (t ∷ ts) h =
      ap (λ b. (if is_in_view sight t && (not (sight.has t.1.store) && not b) then Got w t.2 ∷ [] else []) ++ gots_to sight w (if is_in_view sight t then t.1 ∷ os else os) ts) (h t.1)
      ∙ ap (λ (l : List Release). (if is_in_view sight t && (not (sight.has t.1.store) && not (is_among t.1 ps)) then Got w t.2 ∷ [] else []) ++ l) (by (is_in_view sight t) (gots_alike
      (t.1 ∷ os) (t.1 ∷ ps) ts (in_both t.1 os ps h)) (gots_alike os ps ts h))
    where
      by : (b : Bool) → gots_to sight w (t.1 ∷ os) ts ≡ gots_to sight w (t.1 ∷ ps) ts → gots_to sight w os ts ≡ gots_to sight w ps ts
          → gots_to sight w (if b then t.1 ∷ os else os) ts ≡ gots_to sight w (if b then t.1 ∷ ps else ps) ts
      by true e f = e
      by false e f = f

  in_front : (o : Oid) (fresh os : List Oid) → AreSame (insert_key oids.TheImpl.ghosts.eq fresh o ++ os) (o ∷ (fresh ++ os))
  in_front o fresh os p =
      among_append p (insert_key oids.TheImpl.ghosts.eq fresh o) os ∙ ap (λ b. b || is_among p os) (names_more p o fresh)
      ∙ swap (is_among p fresh) (is_same o p) (is_among p os)
      ∙ ap (λ b. is_same o p || b) (sym (among_append p fresh os))
    where
      swap : (a b c : Bool) → ((a || b) || c) ≡ (b || (a || c))
      swap true true c = refl
      swap true false c = refl
      swap false b c = refl

  gots_first : (t : Touch) (fresh os : List Oid) (more : List Touch) (v : Bool) → is_in_view sight t ≡ v → v ≡ true
      → entry_if (not (sight.has t.1.store) && not (is_among t.1 (fresh ++ os))) (Got w t.2) ++ gots_to sight w (insert_key oids.TheImpl.ghosts.eq fresh t.1 ++ os) more
      ≡ gots_to sight w (fresh ++ os) (t ∷ more)
  gots_first t fresh os more v is holds =
      ap (λ (l : List Release). entry_if (not (sight.has t.1.store) && not (is_among t.1 (fresh ++ os))) (Got w t.2) ++ l)
      (gots_alike (insert_key oids.TheImpl.ghosts.eq fresh t.1 ++ os) (t.1 ∷ (fresh ++ os)) more (in_front t.1 fresh os))
      ∙ ap (λ b. (if b && (not (sight.has t.1.store) && not (is_among t.1 (fresh ++ os))) then Got w t.2 ∷ [] else []) ++ gots_to sight w (if b then t.1 ∷ (fresh ++ os) else
      (fresh ++ os)) more) (sym (is ∙ holds))

-- ---- loops

module _ (quiet : Bool) where
  -- one element more of a list, of which the rest is still to come; and nothing more
  pub step : {A : Type 0} (f : A → List Release) (n m whole : List Released) (xs : List A) (i : ℕ) (x : A) → i < length xs → x ≡ get_or xs i x → m ≡ told quiet n (f x)
      → told quiet n (flat_map f (drop i xs)) ≡ whole → told quiet m (flat_map f (drop (i + 1) xs)) ≡ whole
  step f n m whole xs i x within is next so_far = walks.step (told quiet) (in_parts quiet) (flat_map f) f (λ _ _. refl) n m whole xs i x within is next so_far

  pub end : {A : Type 0} (f : A → List Release) (n whole : List Released) (xs : List A) (i : ℕ) → length xs ≤ i → told quiet n (flat_map f (drop i xs)) ≡ whole → n ≡ whole
  end f n whole xs i past so_far = walks.end (told quiet) (in_parts quiet) (flat_map f) refl (nothing quiet) n whole xs i past so_far

  module _ (sight : Sight) (w : ℕ) where
    downs_first : (d : ℕ × Value) (ds : List (ℕ × Value)) → downs_to sight w (d ∷ ds) ≡ downs_to sight w (d ∷ []) ++ downs_to sight w ds
    downs_first d ds = by (sight.into_view d.0)
      where
        down : ℕ × Value → Release
        down = λ x. Down w x.1

        by : (b : Bool) → map down (if b then d ∷ filter (λ (x : ℕ × Value). sight.into_view x.0) ds else filter (λ (x : ℕ × Value). sight.into_view x.0) ds)
            ≡ map down (if b then d ∷ [] else []) ++ map down (filter (λ (x : ℕ × Value). sight.into_view x.0) ds)
        by true = refl
        by false = refl

    pub downs_step : (n m whole : List Released) (ds : List (ℕ × Value)) (i : ℕ) (d : ℕ × Value) → i < length ds → m ≡ told quiet n (downs_to sight w (get_or ds i d ∷ []))
        → told quiet n (downs_to sight w (drop i ds)) ≡ whole → told quiet m (downs_to sight w (drop (i + 1) ds)) ≡ whole
    downs_step n m whole ds i d within next so_far =
        ap (λ (k : List Released). told quiet k (downs_to sight w (drop (i + 1) ds))) next
        ∙ sym (in_parts quiet n (downs_to sight w (get_or ds i d ∷ [])) (downs_to sight w (drop (i + 1) ds)))
        ∙ ap (told quiet n) (sym (downs_first (get_or ds i d) (drop (i + 1) ds)) ∙ ap (downs_to sight w) (sym (front_at ds i d within)))
        ∙ so_far

    pub downs_end : (n whole : List Released) (ds : List (ℕ × Value)) (i : ℕ) → length ds ≤ i → told quiet n (downs_to sight w (drop i ds)) ≡ whole → n ≡ whole
    downs_end n whole ds i past so_far = sym (nothing quiet n) ∙ ap (λ (l : List (ℕ × Value)). told quiet n (downs_to sight w l)) (sym (past_end ds i past)) ∙ so_far

    -- a touch that is in view, and one that isn't
    pub got_put : (t : Touch) (v b : Bool) (n m : List Released) (fresh now os : List Oid) → v ≡ is_in_view sight t → v ≡ true → b ≡ (not (sight.has t.1.store) && not (is_among t.1 (fresh ++ os)))
        → m ≡ told quiet n (entry_if b (Got w t.2)) → now ≡ insert_key oids.TheImpl.ghosts.eq fresh t.1
        → (more : List Touch) → told quiet m (gots_to sight w (now ++ os) more) ≡ told quiet n (gots_to sight w (fresh ++ os) (t ∷ more))
    got_put t v b n m fresh now os is holds new next joins more =
        ap (λ (k : List Released). told quiet k (gots_to sight w (now ++ os) more)) (next ∙ ap (λ c. told quiet n (entry_if c (Got w t.2))) new)
        ∙ ap (λ (l : List Oid). told quiet (told quiet n (entry_if (not (sight.has t.1.store) && not (is_among t.1 (fresh ++ os))) (Got w t.2))) (gots_to sight w (l ++ os) more)) joins
        ∙ sym (in_parts quiet n (entry_if (not (sight.has t.1.store) && not (is_among t.1 (fresh ++ os))) (Got w t.2)) (gots_to sight w (insert_key oids.TheImpl.ghosts.eq fresh t.1 ++ os) more))
        ∙ ap (told quiet n) (gots_first sight w t fresh os more v (sym is) holds)

    pub got_left : (t : Touch) (v : Bool) (n : List Released) (os : List Oid) → v ≡ is_in_view sight t → v ≡ false
        → (more : List Touch) → told quiet n (gots_to sight w os more) ≡ told quiet n (gots_to sight w os (t ∷ more))
    got_left t v n os is fails more =
        ap (λ b. told quiet n ((if b && (not (sight.has t.1.store) && not (is_among t.1 os)) then Got w t.2 ∷ [] else []) ++ gots_to sight w (if b then t.1 ∷ os else os) more)) (sym fails ∙ is)

    pub gots_end : (n whole : List Released) (os : List Oid) (ts : List Touch) (i : ℕ) → length ts ≤ i → told quiet n (gots_to sight w os (drop i ts)) ≡ whole → n ≡ whole
    gots_end n whole os ts i past so_far = sym (nothing quiet n) ∙ ap (λ (l : List Touch). told quiet n (gots_to sight w os l)) (sym (past_end ts i past)) ∙ so_far
