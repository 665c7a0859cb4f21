-- What contracts see of a kind.
use Rattle.fab_types.specs.declared.kinds.Kind.{Kind as Told}
use Rattle.fab_types.specs.declared.kinds.Kind.TheVariants as k
use Rattle.fab_language.specs.Kinds.{Kind, number, object, nothing, unknown}

abbrev pub seen : Told → Kind
seen (k.Number w) = number w
seen (k.Object x) = object x.now
seen k.Nothing = nothing
seen k.Unknown = unknown
