-- The objects of names in a map, for whoever speaks of changes.
pub use Rattle.fab_nested.specs.Effects.{object_at, objects_at}
