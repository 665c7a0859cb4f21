use Rattle.std.proofs.Common.{◌≡◌, ◌++◌, flat_map}
use Rattle.std.specs.List.{range_with_len}
use Rattle.fab_language.specs.Words.{line}
use Rattle.fab_gen.specs.Generated.{head, workers, root_lines, session_lines}
use Rattle.fab_gen.proofs.generator.generated.Given as goal

abbrev pub invariant-loop-worker : goal.invariant-loop-worker
invariant-loop-worker l = l.text ≡ flat_map line (head ++ flat_map (root_lines l.number l.size) (range_with_len 0 l.worker))

abbrev pub invariant-loop-worker-2 : goal.invariant-loop-worker-2
invariant-loop-worker-2 l =
    l.text ≡ flat_map line (head ++ flat_map (root_lines l.number l.size) workers ++ flat_map (session_lines l.number l.size) (range_with_len 0 l.worker))
