-- Objects by name and version: what is found, and what one more leaves.
use Rattle.std.proofs.Common.{◌≡◌, ℕ, Bool, true, false, ◌&&◌, ◌==◌, cond, if◌then◌else◌, List, [], ◌∷◌, ◌++◌, map, Some, refl, sym, ap, ◌∙◌, arith}
use Rattle.std.proofs.lemmas.Bool.{eqb-true, false≢true}
use Rattle.std.specs.Map.{lookup}
use Rattle.std.proofs.lemmas.Bool.Decides.{nat_tests}
use Rattle.indexmap.specs.IndexMap.{insert_entry}
use Rattle.fab_base.specs.declared.object.Object.{Object}
use Rattle.fab_base.specs.declared.object.Oid.{Oid}
use Rattle.fab_base.specs.FlatMap.{is_same}
use Rattle.fab_base.proofs.Names.{same_self}
use Rattle.fab_base.proofs.NameOrder.{one_name}
use Rattle.fab_protocol.specs.Versions.{Rows}
use Rattle.fab_release.specs.Replay.{row_at}
use Rattle.fab_known.specs.contracts.table.PlacePartialEq as places
use Rattle.fab_known.specs.declared.table.Place.{Place}
use Rattle.fab_known.specs.Tables.{AreAlike, row_found, row_in}

abbrev is_at : Oid → ℕ → Place → Bool
is_at o version p = is_same p.oid o && (p.version == version)

abbrev place : Oid → ℕ → Place
place o version = record { oid = o; version = version }

eq_is : (o : Oid) (version : ℕ) (p : Place) → places.TheImpl.ghosts.eq (place o version) p ≡ is_at o version p
eq_is o version p = grind (arith, nat_tests)

one_place : (o : Oid) (version : ℕ) (p : Place) → is_at o version p ≡ true → p ≡ place o version
one_place o version p e = by (is_same p.oid o) (p.version == version) refl refl e
  where
    by : (a b : Bool) → is_same p.oid o ≡ a → (p.version == version) ≡ b → (a && b) ≡ true → p ≡ place o version
    by true true f g h = λ i. record { oid = one_name p.oid o f i; version = eqb-true p.version version g i }
    by true false f g h = absurd (false≢true h)
    by false b f g h = absurd (false≢true h)

itself : (o : Oid) (version : ℕ) → is_at o version (place o version) ≡ true
itself o version = ap (λ b. b && (version == version)) (same_self o) ∙ grind (arith, nat_tests)

-- what a look-up by place answers
pub found_at : (o : Oid) (version : ℕ) (es : List (Place × Object))
    → row_found o version (lookup (λ (p : Place). places.TheImpl.ghosts.eq (place o version) p) es) ≡ row_at (map row_in es) o version
found_at o version [] = refl
found_at o version (e ∷ es) =
    ap (λ b. row_found o version (cond b (Some e.1) (lookup (λ (p : Place). places.TheImpl.ghosts.eq (place o version) p) es))) (eq_is o version e.0)
    ∙ by (is_at o version e.0) refl (found_at o version es)
  where
    by : (b : Bool) → is_at o version e.0 ≡ b
        → row_found o version (lookup (λ (p : Place). places.TheImpl.ghosts.eq (place o version) p) es) ≡ row_at (map row_in es) o version
        → row_found o version (cond b (Some e.1) (lookup (λ (p : Place). places.TheImpl.ghosts.eq (place o version) p) es)) ≡ (if b then row_in e ∷ [] else row_at (map row_in es) o version)
    by true h rest = λ i. ((sym (one_place o version e.0 h) i).oid, (sym (one_place o version e.0 h) i).version, e.1) ∷ []
    by false h rest = rest

-- an object that is put
pub found_put : (o : Oid) (version : ℕ) (x : Object) (es : List (Place × Object))
    → AreAlike (map row_in (insert_entry places.TheImpl.ghosts.eq es (place o version) x)) ((o, version, x) ∷ map row_in es)
found_put o version x [] p n = refl
found_put o version x (e ∷ es) p n =
    ap (λ b. row_at (map row_in (if b then (e.0, x) ∷ es else e ∷ insert_entry places.TheImpl.ghosts.eq es (place o version) x)) p n) (eq_is o version e.0)
    ∙ by (is_at o version e.0) refl (found_put o version x es p n)
  where
    at : Place → Bool
    at = is_at p n

    by : (b : Bool) → is_at o version e.0 ≡ b
        → row_at (map row_in (insert_entry places.TheImpl.ghosts.eq es (place o version) x)) p n ≡ (if at (place o version) then (o, version, x) ∷ [] else row_at (map row_in es) p n)
        → row_at (map row_in (if b then (e.0, x) ∷ es else e ∷ insert_entry places.TheImpl.ghosts.eq es (place o version) x)) p n
        ≡ (if at (place o version) then (o, version, x) ∷ [] else (if at e.0 then row_in e ∷ [] else row_at (map row_in es) p n))
    by true h rest = ap (λ (q : Place). if at q then (q.oid, q.version, x) ∷ [] else row_at (map row_in es) p n) (one_place o version e.0 h) ∙ over (at (place o version)) refl
      where
        over : (c : Bool) → at (place o version) ≡ c → (if c then (o, version, x) ∷ [] else row_at (map row_in es) p n)
            ≡ (if c then (o, version, x) ∷ [] else (if at e.0 then row_in e ∷ [] else row_at (map row_in es) p n))
        over true g = refl
        over false g = ap (λ c. if c then row_in e ∷ [] else row_at (map row_in es) p n) (sym (ap at (one_place o version e.0 h) ∙ g))
    by false h rest =
        ap (λ (rows : Rows). if at e.0 then row_in e ∷ [] else rows) rest ∙ apart (at e.0) (at (place o version)) refl refl
      where
        apart : (c d : Bool) → at e.0 ≡ c → at (place o version) ≡ d → (if c then row_in e ∷ [] else (if d then (o, version, x) ∷ [] else row_at (map row_in es) p n))
            ≡ (if d then (o, version, x) ∷ [] else (if c then row_in e ∷ [] else row_at (map row_in es) p n))
        apart true true f g = absurd (false≢true (sym h ∙ ap (is_at o version) (one_place p n e.0 f ∙ sym (one_place p n (place o version) g)) ∙ itself o version))
        apart true false f g = refl
        apart false true f g = refl
        apart false false f g = refl

-- the same rows in front
pub alike_behind : (front rows others : Rows) → AreAlike rows others → AreAlike (front ++ rows) (front ++ others)
alike_behind [] rows others h o version = h o version
alike_behind (r ∷ front) rows others h o version =
    ap (λ (l : Rows). if is_same r.0 o && (r.1 == version) then r ∷ [] else l) (alike_behind front rows others h o version)
