use Rattle.std.proofs.Common.{◌≡◌, ◌++◌, sym, arith}
use Rattle.fab_infer.specs.Shown.{labels_of}
use Rattle.fab_infer.proofs.Gathering.{to_declared}
use Rattle.fab_infer.proofs.flows.put_value.Goals as goal

pub returns-then-to-from : goal.returns-then-to-from
returns-then-to-from c =
    let s = c.args.scope.now in
    let n : c.from.result ≡ s.count = cc in
    let below = c.if-to-from.true in
    sym (to_declared s.count c.args.flows.now (c.args.pc.now ++ labels_of s.names c.args.value.now) c.args.to (omega (arith, n, below)))
