-- The parts of what a request means, and commits that are looked for.
use Rattle.std.proofs.Common.{◌≡◌, ℕ, List, map, Option, sym, ap, ◌∙◌}
use Rattle.std.specs.List.{filter}
use Rattle.fab_base.specs.declared.object.Oid.{Oid}
use Rattle.fab_base.specs.declared.object.Value.{Value}
use Rattle.fab_base.specs.FlatMap.{FlatMap, is_among}
use Rattle.fab_language.specs.declared.ending.Ending.TheVariants.{Ended}
use Rattle.fab_language.specs.Heaps.{touched}
use Rattle.fab_language.specs.Meaning.{Meant}
use Rattle.fab_meaning.specs.Ends.{IsMeant}
use Rattle.fab_meaning.specs.declared.whole.Meant as found
use Rattle.fab_protocol.specs.Versions.{Rows, version_of}
use Rattle.fab_protocol.specs.declared.parts.Parts.{Parts}
use Rattle.fab_world.specs.Attempts.{parts_of, value_of}

abbrev made_of : Rows → Option Value → List (ℕ × Oid) → List Oid → List Oid → FlatMap → Parts
made_of known value touches written made objects = record {
  value = value;
  touched = map (λ o. (o, version_of known o)) (touched touches);
  writes = map (λ c. (c.0, version_of known c.0, c.1)) (filter (λ c. is_among c.0 written) objects);
  creates = filter (λ c. is_among c.0 made) objects;
}

pub parts_are : (known : Rows) (value : Option Value) (touches : List (ℕ × Oid)) (written made : List Oid) (objects : FlatMap) (x : found.Meant) (what : Meant)
    → touches ≡ x.touches → written ≡ x.written → made ≡ x.made → objects ≡ x.map → IsMeant x what → what.ending ≡ Ended value
    → made_of known value touches written made objects ≡ parts_of known what
parts_are known value touches written made objects x what e f g h is ended = λ i.
    made_of known (sym (ap value_of ended) i) ((e ∙ is.touches) i) ((f ∙ is.written) i) ((g ∙ is.made) i) ((h ∙ is.map) i)
