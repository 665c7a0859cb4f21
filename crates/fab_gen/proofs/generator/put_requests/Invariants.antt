use Rattle.std.proofs.Common.{◌≡◌, ◌++◌, flat_map, map}
use Rattle.std.specs.List.{range_with_len}
use Rattle.fab_language.specs.Words.{line}
use Rattle.fab_gen.specs.Generated.{request_line}
use Rattle.fab_gen.proofs.generator.put_requests.Given as goal

abbrev pub invariant-loop-place : goal.invariant-loop-place
invariant-loop-place l = l.out ≡ l.fn.out ++ flat_map line (map (request_line l.number l.size l.worker) (range_with_len 0 l.place))
