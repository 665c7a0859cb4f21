use Rattle.std.proofs.Common.{◌≡◌, ◌++◌, flat_map}
use Rattle.fab_language.specs.Words.{line}
use Rattle.fab_gen.specs.Generated.{root_lines}
use Rattle.fab_gen.proofs.generator.put_roots.Given as goal

abbrev pub invariant-loop-place : goal.invariant-loop-place
invariant-loop-place l = l.out ≡ l.fn.out ++ flat_map line (root_lines l.number l.place l.worker)
