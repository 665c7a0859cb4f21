-- Where attempts have changed objects: one change more, and more of them.
use Rattle.std.proofs.Common.{◌≡◌, Bool, true, false, ◌||◌, ◌&&◌, ◌==◌, if◌then◌else◌, List, [], ◌∷◌, ◌++◌, map, refl, sym, ap, ◌∙◌, arith}
use Rattle.std.specs.List.{list_any}
use Rattle.std.proofs.lemmas.List.Folds.{list_any-append}
use Rattle.std.proofs.lemmas.Bool.Decides.{nat_tests}
use Rattle.indexmap.specs.IndexSet.{insert_key}
use Rattle.fab_base.specs.declared.object.Object.{Object}
use Rattle.fab_base.specs.declared.object.Oid.{Oid}
use Rattle.fab_base.specs.declared.object.Tid.{Tid}
use Rattle.fab_base.proofs.Lists.{any_map}
use Rattle.fab_protocol.specs.Versions.{Row, is_tid}
use Rattle.fab_release.specs.Sights.{Sight}
use Rattle.fab_sets.proofs.Listing.{insert_more, or_false, or_parts}
use Rattle.fab_record.specs.contracts.changes.ChangedAtPartialEq as places
use Rattle.fab_record.specs.declared.changes.ChangedAt.{ChangedAt}
use Rattle.fab_record.specs.Kept.{NotesMore, at_store, changes, is_noted, is_one, is_shown_at}

eq_is : (a b : ChangedAt) → places.TheImpl.ghosts.eq a b ≡ is_one b a
eq_is a b = grind (arith, nat_tests)

one_along : (p k a : ChangedAt) → is_one p k ≡ true → is_one k a ≡ true → is_one p a ≡ true
one_along p k a e f = grind (arith, nat_tests)

noted_more : (a k : ChangedAt) (ks : List ChangedAt) → is_noted a (insert_key places.TheImpl.ghosts.eq ks k) ≡ (is_noted a ks || is_one k a)
noted_more a k ks = insert_more places.TheImpl.ghosts.eq is_one eq_is one_along a k ks

-- an object of a class that is seen was changed
pub change_put : (sight : Sight) (u : Tid) (o : Oid) (b : Bool) (old new : List ChangedAt) (at : ChangedAt) → b ≡ sight.shows o.class → b ≡ true → at ≡ at_store u o.store
    → new ≡ insert_key places.TheImpl.ghosts.eq old at → NotesMore old new (λ s t. changes sight u s t o)
change_put sight u o b old new at is holds is_at next s t =
    ap (is_noted (at_store t s)) (next ∙ ap (insert_key places.TheImpl.ghosts.eq old) is_at) ∙ noted_more (at_store t s) (at_store u o.store) old
    ∙ ap (λ c. is_noted (at_store t s) old || c) (together (u.worker == t.worker) (u.boot == t.boot) (u.number == t.number) (o.store == s) (sight.shows o.class) (sym is ∙ holds))
  where
    together : (w x y z c : Bool) → c ≡ true → (w && (x && (y && z))) ≡ ((w && (x && y)) && (z && c))
    together true true true true c h = sym h
    together true true true false c h = refl
    together true true false z c h = refl
    together true false y z c h = refl
    together false x y z c h = refl

pub change_left : (sight : Sight) (u : Tid) (o : Oid) (b : Bool) (old : List ChangedAt) → b ≡ sight.shows o.class → b ≡ false → NotesMore old old (λ s t. changes sight u s t o)
change_left sight u o b old is fails s t = sym (or_false (is_noted (at_store t s) old))
    ∙ ap (λ c. is_noted (at_store t s) old || c) (none (is_tid u t) (o.store == s) (sight.shows o.class) (sym is ∙ fails))
  where
    none : (w z c : Bool) → c ≡ false → false ≡ (w && (z && c))
    none true true c h = sym h
    none true false c h = refl
    none false z c h = refl

-- what an evaluation told that it changed
pub ended_put : (sight : Sight) (u : Tid) (writes : List Row) (creates : List (Oid × Object)) (old mid new : List ChangedAt)
    → NotesMore old mid (λ s t. list_any (λ (w : Row). changes sight u s t w.0) writes)
    → NotesMore mid new (λ s t. list_any (λ (c : Oid × Object). changes sight u s t c.0) creates)
    → NotesMore old new (λ s t. list_any (is_shown_at sight s) (if is_tid u t then map (λ (w : Row). w.0) writes ++ map (λ (c : Oid × Object). c.0) creates else []))
ended_put sight u writes creates old mid new first second s t =
    second s t ∙ ap (λ b. b || list_any (λ (c : Oid × Object). changes sight u s t c.0) creates) (first s t)
    ∙ or_parts (is_noted (at_store t s) old) _ _
    ∙ ap (λ b. is_noted (at_store t s) old || b) (by (is_tid u t))
  where
    none : {A : Type 0} (xs : List A) → list_any (λ x. false) xs ≡ false
    none [] = refl
    none (x ∷ xs) = none xs

    by : (b : Bool) → (list_any (λ (w : Row). b && is_shown_at sight s w.0) writes || list_any (λ (c : Oid × Object). b && is_shown_at sight s c.0) creates)
        ≡ list_any (is_shown_at sight s) (if b then map (λ (w : Row). w.0) writes ++ map (λ (c : Oid × Object). c.0) creates else [])
    by true =
        sym (list_any-append (is_shown_at sight s) (map (λ (w : Row). w.0) writes) (map (λ (c : Oid × Object). c.0) creates)
        ∙ ap (λ b. b || list_any (is_shown_at sight s) (map (λ (c : Oid × Object). c.0) creates)) (any_map (is_shown_at sight s) (λ (w : Row). w.0) writes)
        ∙ ap (λ b. list_any (λ (w : Row). is_shown_at sight s w.0) writes || b) (any_map (is_shown_at sight s) (λ (c : Oid × Object). c.0) creates))
    by false = ap (λ b. b || list_any (λ (c : Oid × Object). false) creates) (none writes) ∙ none creates
