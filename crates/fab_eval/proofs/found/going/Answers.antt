use Rattle.std.proofs.Common.{refl, subst}
use Rattle.fab_left.specs.Acts.{meanings}
use Rattle.fab_left.specs.Left.{at_start}
use Rattle.fab_stack.specs.declared.stepping.Way.{Way}
use Rattle.fab_stack.specs.Stacks.{entries_of}
use Rattle.fab_stack.specs.Stepping.{Runs}
use Rattle.fab_eval.proofs.Settling.{lacks_goes, over_goes}
use Rattle.fab_eval.proofs.found.going.Goals as goal

pub returns-in-Over : goal.returns-in-Over
returns-in-Over c =
    let p = c.args.state in
    let q = c.run.new.state in
    let program = c.args.program.now in
    over_goes program c.args.first.now c.args.stack.items p c.run.new.stack.items q c.in-Over.ended c.over.result
    (λ known st. subst (λ (w : Way). Runs (meanings program p.base.tid) (at_start c.args.first.now) p.base.tid known w (entries_of c.args.stack.items p.base.saved) p.state (entries_of c.run.new.stack.items q.base.saved) q.state) c.in-Over.is (c.in_ok-ended.ensures.runs known st))
    c.in_ok-ended.ensures.attempt c.over.ensures.settles c.over.ensures.at

pub returns : goal.returns
returns c =
    let p = c.args.state in
    let q = c.run.new.state in
    let program = c.args.program.now in
    lacks_goes program c.args.first.now c.args.stack.items p c.run.new.stack.items q
    (record { site = c.in-Lacks.site; oid = c.in-Lacks.oid; first = c.args.first; stack = c.run.new.stack; state = q; fuel = c.in-Lacks.fuel; pairs = c.in-Lacks.pairs; objects = c.in-Lacks.objects })
    c.lacking.result refl refl refl
    (λ known st. subst (λ (w : Way). Runs (meanings program p.base.tid) (at_start c.args.first.now) p.base.tid known w (entries_of c.args.stack.items p.base.saved) p.state (entries_of c.run.new.stack.items q.base.saved) q.state) c.in-Lacks.is (c.in_ok-ended.ensures.runs known st))
    c.in_ok-ended.ensures.matched c.in_ok-ended.ensures.attempt c.lacking.ensures.outcome c.lacking.ensures.touches c.lacking.ensures.downs c.lacking.ensures.at
