use Rattle.std.proofs.lemmas.Result.{IfOk-weaker}
use Rattle.fab_flows.proofs.Replying.{granted, refused_conf, refused_integ}
use Rattle.fab_flows.proofs.reply.reply.Goals as goal

pub returns-in-Some : goal.returns-in-Some
returns-in-Some c =
    let found = rw c.in-Some.is at c.in_ok-at.ensures.covered in
    let within = rw c.in-Some.is at c.in_ok-at.ensures.within in
    IfOk-weaker c.refusal.result _ _
    (λ text e. refused_conf c.args.start.now c.args.from.now c.args.to.now c.as_slice-conf.result.now c.as_slice-by.result.now c.in-Some.at c.index-conf-at.result text c.as_slice-conf.ensures c.as_slice-by.ensures within c.index-conf-at.is found e)
    c.refusal.ensures

pub returns-in-Some-2 : goal.returns-in-Some-2
returns-in-Some-2 c =
    let lines = rw c.in_default.is at c.in_ok-at.ensures.covered in
    let found = rw c.in-Some-2.is at c.in_ok-at-2.ensures.covered in
    let within = rw c.in-Some-2.is at c.in_ok-at-2.ensures.within in
    IfOk-weaker c.refusal-in-Some-2.result _ _
    (λ text e. refused_integ c.args.start.now c.args.from.now c.args.to.now c.as_slice-conf.result.now c.as_slice-by.result.now c.as_slice-integ.result.now c.as_slice-by-2.result.now c.in-Some-2.at c.index-integ-at.result
    c.in_ok-out.out c.put_covers.new.out text c.as_slice-conf.ensures c.as_slice-by.ensures c.as_slice-integ.ensures c.as_slice-by-2.ensures lines within c.index-integ-at.is found e)
    c.refusal-in-Some-2.ensures

pub returns : goal.returns
returns c =
    let conf = rw c.in_default.is at c.in_ok-at.ensures.covered in
    let integ = rw c.in_default-2.is at c.in_ok-at-2.ensures.covered in
    granted c.args.start.now c.args.from.now c.args.to.now c.as_slice-conf.result.now c.as_slice-by.result.now c.as_slice-integ.result.now c.as_slice-by-2.result.now c.in_ok-out.out c.put_covers.new.out c.put_covers-2.new.out
    c.as_slice-conf.ensures c.as_slice-by.ensures c.as_slice-integ.ensures c.as_slice-by-2.ensures c.in_ok-out.ensures conf integ
