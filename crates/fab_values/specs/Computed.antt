-- What is computed from values, as a run: a value, or none where it fails.
use Rattle.std.specs.Prelude.{Option, Some, None}
use Rattle.fab_base.specs.declared.object.Value.{Value}
use Rattle.fab_language.specs.Meaning.{M, gives, ends, failed}

abbrev pub computed : Option Value → M Value
computed (Some v) = gives v
computed None = ends failed
