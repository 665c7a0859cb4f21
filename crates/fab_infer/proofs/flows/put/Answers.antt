use Rattle.std.proofs.Common.{◌≡◌, ◌∷◌, [], sym, ◌∙◌, arith}
use Rattle.std.proofs.lemmas.Result.{on_ok_weaker}
use Rattle.fab_infer.proofs.Gathering.{to_declared, to_hole}
use Rattle.fab_infer.proofs.flows.put.Goals as goal

pub returns-then-to-from : goal.returns-then-to-from
returns-then-to-from c =
    let n : c.from.result ≡ c.args.count = cc in
    let below = c.if-to-from.true in
    sym (to_declared c.args.count c.args.flows.now (c.args.from ∷ []) c.args.to (omega (arith, n, below)))

pub returns : goal.returns
returns c =
    let n : c.from.result ≡ c.args.count = cc in
    let above = c.if-to-from.false in
    on_ok_weaker c.push.result (λ h. h ∙ sym (to_hole c.args.count c.args.flows.now c.args.from c.args.to (omega (arith, n, above)))) c.push.ensures.ok
