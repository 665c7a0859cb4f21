-- The parts of an attempt over known answers.
use Rattle.std.proofs.Common.{◌≡◌, ℕ, ◌≤◌, true, ◌||◌, List, [], ◌∷◌, map, length, Some, refl, ap, ◌∙◌, IsTrue, arith, if◌then◌else◌}
use Rattle.std.specs.Prelude.{slice_get}
use Rattle.std.specs.List.{AllByRecursion}
use Rattle.std.proofs.lemmas.List.{length-map}
use Rattle.fab_base.specs.declared.object.Oid.{Oid}
use Rattle.fab_base.specs.declared.object.Object.{Object}
use Rattle.fab_base.specs.declared.object.Tid.{Tid}
use Rattle.fab_base.specs.FlatMap.{FlatMap, is_among, is_same, get, map_of, ascends}
use Rattle.fab_base.proofs.Names.{same_self}
use Rattle.fab_base.proofs.Lists.{all_along, all_map, all_passed, at_index}
use Rattle.fab_map.proofs.Rows.{ascends-put_all}
use Rattle.fab_tree.specs.declared.resolved.Request.{Request}
use Rattle.fab_tree.specs.declared.resolved.Resolved.{Resolved}
use Rattle.fab_language.specs.Heaps.{touched}
use Rattle.fab_language.specs.Meaning.{Meant, meaning}
use Rattle.fab_nested.specs.Nested as nested
use Rattle.fab_laws.specs.Changes.{OnlyChanges, WritesKnown, StaysWithin}
use Rattle.fab_laws.specs.Locality.{rows_among}
use Rattle.fab_laws.specs.Shapes.{IsShaped, AreShaped, IsFitting}
use Rattle.fab_laws.proofs.Changes.{leaves}
use Rattle.fab_laws.proofs.Names.{or_true}
use Rattle.fab_laws.proofs.Shapes.{shape_kept}
use Rattle.fab_rights.specs.declared.rights.Rights.{Rights}
use Rattle.fab_protocol.specs.Parts.{KeepsParts}
use Rattle.fab_protocol.specs.Versions.{Row, Rows, names_of, objects_of, version_of}
use Rattle.fab_world.specs.Attempts.{parts_of}
use Rattle.fab_attempts.specs.Known.{IsKnown, AreKnown, ArePartsOver}
use Rattle.fab_attempts.specs.Sessions.{IsProgramOf, requests_of}
use Rattle.fab_attempts.proofs.Rows.{all_rows, few_rows, all_found, found_among}
use Rattle.fab_attempts.proofs.Suiting.{few_fields}

-- ---- what an evaluation leaves, as the parts have it

version_same : (answers : Rows) (o : Oid) → nested.version_of (nested.versions_of answers) o ≡ version_of answers o
version_same [] o = refl
version_same (row ∷ rows) o = ap (λ n. if is_same row.0 o then row.1 else n) (version_same rows o)

pub writes_are_parts : (answers : Rows) (meant : Meant) → nested.writes_in (nested.versions_of answers) meant.written meant.map ≡ (parts_of answers meant).writes
writes_are_parts answers meant = λ i. map (λ c. (c.0, version_same answers c.0 i, c.1)) (rows_among meant.written meant.map)

-- ---- lists

-- what holds of each name that is among these holds of each
all_names : (P : Oid → Type 0) (os : List Oid) → ((o : Oid) → is_among o os ≡ true → P o) → AllByRecursion P os
all_names P [] f = tt
all_names P (o ∷ os) f = (
  f o (ap (λ b. b || is_among o os) (same_self o)),
  all_names P os (λ p e. f p (ap (λ b. is_same o p || b) e ∙ or_true (is_same o p))),
)

-- ---- over known answers

module _ (program : Resolved) (t : Tid) (answers : Rows) (known : AreKnown program t answers) where
  abbrev over : FlatMap
  over = map_of (objects_of answers)

  -- what was touched and what was written, with the versions of the answers
  abbrev touched_row : Oid → Oid × ℕ
  touched_row o = (o, version_of answers o)

  abbrev written_row : Oid × Object → Row
  written_row c = (c.0, version_of answers c.0, c.1)

  -- each object that is found among the answers is known
  found_known : (o : Oid) (x : Object) → get over o ≡ Some x → IsKnown program t (o, 0, x)
  found_known =
      all_found (λ o x. IsKnown program t (o, 0, x)) answers
      (all_along (IsKnown program t) (λ row. IsKnown program t (row.0, 0, row.2))
      (λ row h. record { shaped = h.shaped; made = h.made }) answers known)

  over_shaped : AreShaped program.classes over
  over_shaped o x e = (found_known o x e).shaped

  module _ (n : ℕ) (rights : Rights) (fits : IsProgramOf program n rights) (i : ℕ) (request : Request)
      (asked : slice_get (requests_of program n) i ≡ Some request) (fuel : ℕ) where
    abbrev meant : Meant
    meant = meaning program over request t fuel

    changes : OnlyChanges over meant
    changes = (leaves over program t request fuel).changes

    writes : WritesKnown over meant
    writes = (leaves over program t request fuel).writes

    stays : StaysWithin over meant
    stays = (leaves over program t request fuel).stays

    ascending : ascends meant.map ≡ true
    ascending = changes.ascending (ascends-put_all (objects_of answers) [] refl)

    rows_shaped : AllByRecursion (λ c. IsShaped program.classes c.0 c.1) meant.map
    rows_shaped =
        let shape = shape_kept program fits.fitting t over request fuel over_shaped (at_index (IsFitting program) (requests_of program n) i request fits.requests asked) in
        all_rows (IsShaped program.classes) meant.map ascending shape.objects

    -- what was written is known, as its name was that of an answer
    written_known : (c : Oid × Object) → IsShaped program.classes c.0 c.1 → is_among c.0 meant.written ≡ true → IsKnown program t (written_row c)
    written_known c shaped among =
        let there = writes.was_there c.0 among in
        let before = found_known c.0 there.0 there.1 in
        record { shaped = shaped; made = before.made }

    small : (c : Oid × Object) → IsShaped program.classes c.0 c.1 → length c.1.fields ≤ 16
    small c shaped = few_fields program.classes fits.fields c.0 c.1 shaped

    counted : KeepsParts (parts_of answers meant)
    counted = record {
      touched =
          let few = stays.few_touched in
          let same = length-map (touched meant.touches) touched_row in
          omega (arith, few, same);
      writes =
          let few = stays.few_changed in
          let same = length-map (rows_among meant.written meant.map) written_row in
          let rows = few_rows meant.written meant.map ascending in
          omega (arith, few, same, rows);
      written =
          all_map (λ w. length w.2.fields ≤ 16) written_row (rows_among meant.written meant.map)
          (all_passed (λ c. IsShaped program.classes c.0 c.1) (λ c. length c.1.fields ≤ 16) (λ c. is_among c.0 meant.written) (λ c shaped e. small c shaped) meant.map rows_shaped);
      creates =
          let few = stays.few_changed in
          let rows = few_rows meant.made meant.map ascending in
          omega (arith, few, rows);
      created = all_passed (λ c. IsShaped program.classes c.0 c.1) (λ c. length c.1.fields ≤ 16) (λ c. is_among c.0 meant.made) (λ c shaped e. small c shaped) meant.map rows_shaped;
    }

    pub parts_over : ArePartsOver program t answers (parts_of answers meant)
    parts_over = record {
      counts = counted;
      touched =
          all_map (λ o. IsTrue (is_among o.0 (names_of answers))) touched_row (touched meant.touches)
          (all_names (λ o. IsTrue (is_among o (names_of answers))) (touched meant.touches)
          (λ o e. let there = stays.was_there o e in found_among answers o there.0 there.1));
      writes =
          all_map (IsKnown program t) written_row (rows_among meant.written meant.map)
          (all_passed (λ c. IsShaped program.classes c.0 c.1) (λ c. IsKnown program t (written_row c)) (λ c. is_among c.0 meant.written) written_known meant.map rows_shaped);
    }
