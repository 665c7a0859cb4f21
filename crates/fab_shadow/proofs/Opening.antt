-- The world at the start and the replay at its start.
use Rattle.std.proofs.Common.{◌≡◌, ℕ, Bool, true, false, not, ◌&&◌, cond, [], ◌∷◌, map, Option, Some, None, refl, sym, ap, ◌∙◌, subst, true≢false}
use Rattle.std.specs.Prelude.{◌==◌, if◌then◌else◌, option_map}
use Rattle.std.specs.List.{filter, range_with_len}
use Rattle.std.proofs.lemmas.Bool.{and_parts, eq-eqb}
use Rattle.std.proofs.lemmas.Option.{none-some, same_Some}
use Rattle.fab_base.specs.declared.object.Oid.{Oid}
use Rattle.fab_base.specs.declared.object.Object.{Object}
use Rattle.fab_base.specs.FieldSpelling.{IsObject, sent_version}
use Rattle.fab_base.specs.FlatMap.{FlatMap, is_same}
use Rattle.fab_base.proofs.Lists.{all_along, all_filter, all_map}
use Rattle.fab_protocol.specs.Stores.{Shelf, shelf_at_start}
use Rattle.fab_protocol.specs.Tables.{row_of}
use Rattle.fab_protocol.specs.Versions.{Row, Rows, begun, name_of}
use Rattle.fab_world.specs.Machine.{Setting, at_start, shelf}
use Rattle.fab_world.specs.Serial.{IsFit}
use Rattle.fab_world.specs.Workers.{Kept}
use Rattle.fab_release.specs.Sights.{Sight, Public}
use Rattle.fab_release.specs.Replay as replay
use Rattle.fab_release.specs.Replay.{Rebuilt, is_shown, row_at, shown_roots}
use Rattle.fab_isolation.specs.Law.{IsShared}
use Rattle.fab_integrity.proofs.Invariant.{In, standing}
use Rattle.fab_integrity.proofs.Lasting.{kept_start, shelf_start}
use Rattle.fab_integrity.proofs.Lists.{in_blank}
use Rattle.fab_shadow.proofs.Shadow.{never, Recorded, Shadow, ShadowsStore, ShadowsWorker, Tabled}
use Rattle.fab_shadow.proofs.Lists.{row_of_map, row_passed}

-- ---- roots at version 1

abbrev root_name : Oid × Object → Oid
root_name root = root.0

abbrev one_row : Option Row → Rows
one_row None = []
one_row (Some r) = r ∷ []

begun_step : (root : Oid × Object) (roots : FlatMap) (o : Oid) → row_at (map begun roots) o 1 ≡ one_row (row_of name_of (map begun roots) o) → (b : Bool)
    → (if b && (1 == 1) then begun root ∷ [] else row_at (map begun roots) o 1) ≡ one_row (cond b (Some (begun root)) (row_of name_of (map begun roots) o))
begun_step root roots o same true = refl
begun_step root roots o same false = same

-- each is at its version
begun_at : (roots : FlatMap) (o : Oid) → row_at (map begun roots) o 1 ≡ one_row (row_of name_of (map begun roots) o)
begun_at [] o = refl
begun_at (root ∷ roots) o = begun_step root roots o (begun_at roots o) (is_same root.0 o)

-- and at no other
begun_version : (roots : FlatMap) (o : Oid) (r : Row) → row_of name_of (map begun roots) o ≡ Some r → r.1 ≡ 1
begun_version roots o r h = by (row_of root_name roots o) (sym (row_of_map name_of begun roots o) ∙ h)
  where
    by : (found : Option (Oid × Object)) → option_map begun found ≡ Some r → r.1 ≡ 1
    by None e = absurd (none-some r e)
    by (Some root) e = ap (λ (z : Row). z.1) (sym (same_Some (begun root) r e))

module _ (S : Setting) (sight : Sight) (P : Public) (shared : IsShared S sight P) where
  start_worker : (n : ℕ) → ShadowsWorker S sight P n (standing S sight.has never (at_start S) [] n) [] ((replay.at_start sight P).worker n)
  start_worker n = record {
    keeps = record {
      boot = sym (ap (λ (k : Kept). k.boot) kept_start);
      number = λ _. refl;
      commits = refl;
      parties = λ c i. absurd i;
      wide = refl;
      wide_too = refl;
      cached = λ s inside. refl;
    };
    phase = refl;
  }

  start_recorded : (n : ℕ) → Recorded S sight P n (standing S sight.has never (at_start S) [] n) []
  start_recorded n = record { own = λ c i. absurd i; ended = λ c i. absurd i; asked = λ waits. absurd waits; later = λ t at late. refl }

  -- ---- the roots that are shown are those of the public part

  abbrev here : ℕ → Oid → Bool
  here s o = o.store == s

  shown_at : (o : Oid) → is_shown sight P o ≡ true → row_of root_name (shown_roots sight P) o ≡ row_of root_name S.roots o
  shown_at o shown =
      row_passed root_name (is_shown sight P) P.roots o shown
      ∙ ap (λ roots. row_of root_name roots o) shared.public_is.roots
      ∙ row_passed root_name (λ (p : Oid). sight.shows p.class) S.roots o (and_parts (sight.shows o.class) (not (sight.has o.store)) shown).0

  -- what the store begins with, of a name of its own
  begun_here : (roots : FlatMap) (s : ℕ) (o : Oid) → o.store ≡ s → row_of name_of (map begun (filter (λ root. root.0.store == s) roots)) o ≡ option_map begun (row_of root_name roots o)
  begun_here roots s o at =
      row_of_map name_of begun (filter (λ (root : Oid × Object). root.0.store == s) roots) o
      ∙ ap (option_map begun) (row_passed root_name (here s) roots o (eq-eqb o.store s at))

  start_rows : (s : ℕ) (o : Oid) → is_shown sight P o ≡ true → o.store ≡ s
      → row_of name_of (shelf_at_start (shown_roots sight P) s).rows o ≡ row_of name_of (shelf_at_start S.roots s).rows o
  start_rows s o shown at = begun_here (shown_roots sight P) s o at ∙ ap (option_map begun) (shown_at o shown) ∙ sym (begun_here S.roots s o at)

  start_store : (s : ℕ) → ShadowsStore S sight P s (shelf S (at_start S) s) ((replay.at_start sight P).store s)
  start_store s =
      subst (λ x. ShadowsStore S sight P s x ((replay.at_start sight P).store s)) (sym (shelf_start S.roots s))
      (record {
        rows = start_rows s;
        prepared = refl;
        wide = refl;
        senders = λ d inside. refl;
        spelled = all_map (λ (r : Row). IsObject sent_version r.2) begun (filter (λ (root : Oid × Object). root.0.store == s) S.roots)
            (all_filter (λ (root : Oid × Object). IsObject sent_version root.1) (λ (root : Oid × Object). root.0.store == s) S.roots
            (all_along (IsFit S) (λ (root : Oid × Object). IsObject sent_version root.1) (λ root fit. fit.spelled) S.roots shared.setting.roots_fit));
        left_spelled = tt;
      })

  start_now : (o : Oid) (r : Row) → is_shown sight P o ≡ true → row_of name_of (shelf S (at_start S) o.store).rows o ≡ Some r
      → row_at (map begun (shown_roots sight P)) o r.1 ≡ r ∷ []
  start_now o r shown found =
      let there : row_of name_of (map begun (shown_roots sight P)) o ≡ Some r =
      row_of_map name_of begun (shown_roots sight P) o ∙ ap (option_map begun) (shown_at o shown) ∙ sym (begun_here S.roots o.store o refl)
      ∙ ap (λ (x : Shelf). row_of name_of x.rows o) (sym (shelf_start S.roots o.store)) ∙ found in
      ap (row_at (map begun (shown_roots sight P)) o) (begun_version (shown_roots sight P) o r there) ∙ begun_at (shown_roots sight P) o ∙ ap one_row there

  start_tabled : Tabled S sight P (at_start S) [] (map begun (shown_roots sight P))
  start_tabled = record {
    now = λ o r shown at found. start_now o r shown found;
    pending = λ s me p i. absurd (subst (λ (x : Shelf). In p x.prepared) (shelf_start S.roots s) i);
    answers = λ n me r i. absurd i;
    cached = λ n me rows i r j. absurd (subst (In r) (in_blank (range_with_len 0 64) rows i) j);
    objects = λ n s me from bytes i. absurd i;
  }

  -- they stand to each other
  pub shadow_start : Shadow S sight P (at_start S) [] [] (replay.at_start sight P)
  shadow_start = record {
    worker = λ n me. start_worker n;
    recorded = λ n me. start_recorded n;
    asleep = λ n me off. absurd (true≢false off);
    store = λ s me. start_store s;
    tabled = start_tabled;
  }
