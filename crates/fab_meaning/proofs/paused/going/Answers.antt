use Rattle.std.proofs.Common.{refl, subst}
use Rattle.fab_rights.specs.Computed.{has_bit}
use Rattle.fab_left.specs.ErasedActs.{meanings}
use Rattle.fab_left.specs.Left.{at_start}
use Rattle.fab_stack.specs.declared.stepping.Way.{Way}
use Rattle.fab_stack.specs.Stacks.{entries_of}
use Rattle.fab_stack.specs.Stepping.{Runs}
use Rattle.fab_meaning.specs.declared.paused.Paused.{Paused}
use Rattle.fab_meaning.proofs.Pausing.{lacks_paused, over_turns}
use Rattle.fab_meaning.proofs.paused.going.Goals as goal

pub returns-in-Over : goal.returns-in-Over
returns-in-Over c =
    let p = c.args.state in
    let q = c.run.new.state in
    let s = c.args.seen in
    let program = c.args.program.now in
    over_turns program s c.args.first.now c.args.stack.items p c.run.new.stack.items q c.in-Over.ended c.done.result
    (λ known st. subst (λ (w : Way). Runs (meanings (has_bit s.labels) (has_bit s.classes) program p.base.tid) (at_start c.args.first.now) p.base.tid known w (entries_of c.args.stack.items p.base.saved) p.state (entries_of c.run.new.stack.items q.base.saved) q.state)
    c.in-Over.is (c.in_ok-ended.ensures.runs known st))
    c.done.ensures

pub returns : goal.returns
returns c =
    let p = c.args.state in
    let q = c.run.new.state in
    let s = c.args.seen in
    let program = c.args.program.now in
    let x : Paused = record {
      program = c.args.program;
      seen = s;
      site = c.in-Lacks.site;
      oid = c.in-Lacks.oid;
      first = c.args.first;
      stack = c.run.new.stack;
      state = q;
      fuel = c.in-Lacks.fuel;
      pairs = c.in-Lacks.pairs;
      objects = c.in-Lacks.objects;
    } in λ job is sees_so left_is.
    lacks_paused program s c.args.first.now c.args.stack.items p c.run.new.stack.items q job is sees_so left_is x refl refl refl refl refl
    (λ known st. subst (λ (w : Way). Runs (meanings (has_bit s.labels) (has_bit s.classes) program p.base.tid) (at_start c.args.first.now) p.base.tid known w (entries_of c.args.stack.items p.base.saved) p.state (entries_of c.run.new.stack.items q.base.saved) q.state)
    c.in-Lacks.is (c.in_ok-ended.ensures.runs known st))
    c.in_ok-ended.ensures.matched c.in_ok-ended.ensures.attempt
