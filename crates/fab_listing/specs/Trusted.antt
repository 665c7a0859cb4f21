-- The text of what trusted replay gives.
use Rattle.std.specs.Prelude.{List, [], ◌∷◌, ◌++◌, ℕ, length, codes}
use Rattle.std.specs.Fmt.{decimal}
use Rattle.fab_base.specs.FlatMap.{FlatMap}
use Rattle.fab_tree.specs.declared.resolved.Resolved.{Resolved}
use Rattle.fab_language.specs.Evaluation.{objects_text}
use Rattle.fab_language.specs.Words.{line, spaced}

-- that the bundle is robust, a line for each object, and how many there are
abbrev pub trusted_text : Resolved → FlatMap → List ℕ
trusted_text r m = line (codes "robust") ++ objects_text r m ++ line (codes "end" ++ spaced (decimal (length m) ∷ []))
