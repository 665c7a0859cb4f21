use Rattle.std.proofs.Common.{◌≡◌, ◌++◌, flat_map, codes, subst, arith}
use Rattle.std.specs.List.{range_with_len}
use Rattle.fab_language.specs.Words.{line}
use Rattle.fab_gen.specs.Generated.{head, workers, root_lines, session_lines}
use Rattle.fab_gen.proofs.Lines.{lines_more, line_last}
use Rattle.fab_gen.proofs.generator.generated.Goals as goal

pub loop-worker-preserved : goal.loop-worker-preserved
loop-worker-preserved c =
    lines_more (root_lines c.args.number c.args.size) c.loop-worker.worker head c.loop-worker.text c.put_roots.new.out c.loop-worker.invariant c.in_ok-put_roots.ensures

pub loop-worker-2-preserved : goal.loop-worker-2-preserved
loop-worker-2-preserved c =
    lines_more (session_lines c.args.number c.args.size) c.loop-worker-2.worker (head ++ flat_map (root_lines c.args.number c.args.size) workers)
    c.loop-worker-2.text c.put_session.new.out c.loop-worker-2.invariant c.in_ok-put_session.ensures

pub returns : goal.returns
returns c =
    let front = head ++ flat_map (root_lines c.args.number c.args.size) workers in
    let sessions = flat_map (session_lines c.args.number c.args.size) in
    let all : c.loop-worker-2.worker ≡ 4 = omega arith in
    let so_far = subst (λ k. c.loop-worker-2.text ≡ flat_map line (front ++ sessions (range_with_len 0 k))) all c.loop-worker-2.invariant in
    line_last (codes "}") (front ++ sessions workers) c.loop-worker-2.text c.extend.new.self so_far c.in_ok-extend.ensures.ok
