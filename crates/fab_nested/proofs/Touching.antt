-- Objects that are touched, as a set of names takes them, and touches that are taken back.
use Rattle.std.proofs.Common.{◌≡◌, ℕ, ◌+◌, ◌<◌, Bool, true, false, if◌then◌else◌, List, [], ◌∷◌, ◌++◌, length, get_or, map, take, drop, append-nil, refl, sym, ap, ◌∙◌}
use Rattle.std.specs.List.{list_any}
use Rattle.std.proofs.lemmas.List.{append_assoc, map-append, take_more, take_at, take-append-drop}
use Rattle.indexmap.specs.IndexSet.{insert_key}
use Rattle.fab_base.specs.declared.object.Oid.{Oid}
use Rattle.fab_base.specs.FlatMap.{is_among}
use Rattle.fab_base.specs.contracts.object.OidPartialEq as oids
use Rattle.fab_language.specs.Heaps.{each_once, touched}
use Rattle.fab_language.proofs.Touches.{once_more, among_once}
use Rattle.fab_nested.proofs.Naming.{among_by}

-- a set that takes the name of the next touch
pub touched_next : (ts : List (ℕ × Oid)) (i : ℕ) (d : ℕ × Oid) → i < length ts → touched (take (i + 1) ts) ≡ insert_key oids.TheImpl.ghosts.eq (touched (take i ts)) (get_or ts i d).1
touched_next ts i d lt =
    let objects : List (ℕ × Oid) → List Oid = map (λ (t : ℕ × Oid). t.1) in
    let x : Oid = (get_or ts i d).1 in
    let front : List (ℕ × Oid) = take i ts in
    let known : list_any (λ (p : Oid). oids.TheImpl.ghosts.eq x p) (touched front) ≡ is_among x (objects front) = among_by x (touched front) ∙ among_once x (objects front) in
    ap touched (take_more ts i d lt)
    ∙ ap each_once (map-append (λ (t : ℕ × Oid). t.1) front (get_or ts i d ∷ []))
    ∙ once_more x (objects front)
    ∙ ap (λ b. if b then touched front else touched front ++ x ∷ []) (sym known)

-- the same of a set that has the names of the touches before
pub names_next : (ts : List (ℕ × Oid)) (i : ℕ) (d : ℕ × Oid) (old new : List Oid) → i < length ts → old ≡ touched (take i ts)
    → new ≡ insert_key oids.TheImpl.ghosts.eq old (get_or ts i d).1 → new ≡ touched (take (i + 1) ts)
names_next ts i d old new lt before put = put ∙ ap (λ names. insert_key oids.TheImpl.ghosts.eq names (get_or ts i d).1) before ∙ sym (touched_next ts i d lt)

-- ---- touches are taken back

-- names that come later come last
once_begins : (os ps : List Oid) → (rest : List Oid) × (each_once (os ++ ps) ≡ each_once os ++ rest)
once_begins os [] = ([], ap each_once (append-nil os) ∙ sym (append-nil (each_once os)))
once_begins os (p ∷ ps) = by (once_begins (os ++ p ∷ []) ps) (is_among p os) refl
  where
    by : ((rest : List Oid) × (each_once ((os ++ p ∷ []) ++ ps) ≡ each_once (os ++ p ∷ []) ++ rest)) → (b : Bool) → is_among p os ≡ b → (rest : List Oid) × (each_once (os ++ p ∷ ps) ≡ each_once os ++ rest)
    by r true e = (
      r.0,
      ap each_once (sym (append_assoc os (p ∷ []) ps)) ∙ r.1 ∙ ap (λ l. l ++ r.0) (once_more p os ∙ rw e refl),
    )
    by r false e = (
      p ∷ r.0,
      ap each_once (sym (append_assoc os (p ∷ []) ps)) ∙ r.1 ∙ ap (λ l. l ++ r.0) (once_more p os ∙ rw e refl) ∙ append_assoc (each_once os) (p ∷ []) r.0,
    )

once_front : (os ps : List Oid) → take (length (each_once os)) (each_once (os ++ ps)) ≡ each_once os
once_front os ps = let r = once_begins os ps in ap (take (length (each_once os))) r.1 ∙ take_at (each_once os) r.0 (length (each_once os)) refl

-- the objects of the first touches are the first of the objects
pub touched_front : (n : ℕ) (ts : List (ℕ × Oid)) → take (length (touched (take n ts))) (touched ts) ≡ touched (take n ts)
touched_front n ts =
    let objects : List (ℕ × Oid) → List Oid = map (λ (t : ℕ × Oid). t.1) in
    ap (λ os. take (length (touched (take n ts))) (each_once os)) (ap objects (sym (take-append-drop n ts)) ∙ map-append (λ (t : ℕ × Oid). t.1) (take n ts) (drop n ts))
    ∙ once_front (objects (take n ts)) (objects (drop n ts))

-- the same of the sets' lists
pub objects_cut : (pairs n : ℕ) (ts now new : List (ℕ × Oid)) (os all : List Oid) → ts ≡ now → os ≡ touched ts → n ≡ length (touched (take pairs now)) → new ≡ take pairs ts → all ≡ take n os → all ≡ touched new
objects_cut pairs n ts now new os all seen i count cut fewer =
    fewer
    ∙ (λ j. take ((count ∙ ap (λ l. length (touched (take pairs l))) (sym seen)) j) (i j))
    ∙ touched_front pairs ts
    ∙ ap touched (sym cut)
