-- The parts of an attempt, of what its request means over its answers.
use Rattle.std.specs.Prelude.{map, Option, None}
use Rattle.std.specs.List.{filter}
use Rattle.fab_base.specs.declared.object.Value.{Value}
use Rattle.fab_base.specs.FlatMap.{is_among}
use Rattle.fab_language.specs.declared.ending.Ending.{Ending}
use Rattle.fab_language.specs.declared.ending.Ending.TheVariants.{Ended, Failed, Stopped, Missing}
use Rattle.fab_language.specs.Heaps.{touched}
use Rattle.fab_language.specs.Meaning.{Meant}
use Rattle.fab_protocol.specs.Versions.{Rows, version_of}
use Rattle.fab_protocol.specs.declared.parts.Parts.{Parts}

abbrev pub value_of : Ending → Option Value
value_of (Ended v) = v
value_of Failed = None
value_of (Stopped stop) = None
value_of (Missing site o) = None

abbrev pub parts_of : Rows → Meant → Parts
parts_of answers meant = record {
  value = value_of meant.ending;
  touched = map (λ o. (o, version_of answers o)) (touched meant.touches);
  writes = map (λ c. (c.0, version_of answers c.0, c.1)) (filter (λ c. is_among c.0 meant.written) meant.map);
  creates = filter (λ c. is_among c.0 meant.made) meant.map;
}
