use Rattle.std.proofs.Common.{codes}
use Rattle.std.proofs.lemmas.Result.{on_ok_weaker}
use Rattle.fab_gen.specs.Generated.{session_line, request_lines}
use Rattle.fab_gen.proofs.Lines.{lines_between}
use Rattle.fab_gen.proofs.generator.put_session.Goals as goal

pub returns : goal.returns
returns c = on_ok_weaker c.extend.result (lines_between (session_line c.args.worker) (codes "  }") (request_lines c.args.number c.args.size c.args.worker) c.args.out.now
    c.put_opening.new.out c.put_requests.new.out c.extend.new.self c.in_ok-put_opening.ensures c.in_ok-put_requests.ensures) c.extend.ensures.ok
