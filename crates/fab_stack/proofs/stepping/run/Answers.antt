use Rattle.std.proofs.Common.{◌∙◌}
use Rattle.fab_left.specs.Left.{at_start}
use Rattle.fab_stack.specs.Stacks.{entries_of}
use Rattle.fab_stack.proofs.Running.{run_on, run_ends}
use Rattle.fab_stack.proofs.stepping.run.Goals as goal

pub loop-way-preserved : goal.loop-way-preserved
loop-way-preserved g c =
    let b = c.args.state.now.base in
    let i = c.loop-way.invariant in
    record {
      same = λ known st. run_on (g.A.Acts.means c.args.acts.now c.args.program.now) (at_start c.args.first.now) known b.tid c.loop-way.state.base.tid (entries_of c.args.stack.now.items b.saved)
          (entries_of c.loop-way.stack.items c.loop-way.state.base.saved) (entries_of c.step.new.stack.items c.step.new.state.base.saved) c.args.state.now.state c.loop-way.state.state c.step.new.state.state i.attempt.tid (i.same known st) (rw c.in_default.is at (c.in_ok-way.ensures.turns known));
      matched = c.in_ok-way.ensures.matched;
      attempt = record { tid = c.in_ok-way.ensures.attempt.tid ∙ i.attempt.tid; versions = c.in_ok-way.ensures.attempt.versions ∙ i.attempt.versions };
    }

pub returns-in-Some-clause-runs : goal.returns-in-Some-clause-runs
returns-in-Some-clause-runs g c = λ known st.
    let b = c.args.state.now.base in
    let i = c.loop-way.invariant in
    run_ends (g.A.Acts.means c.args.acts.now c.args.program.now) (at_start c.args.first.now) known b.tid c.loop-way.state.base.tid (entries_of c.args.stack.now.items b.saved)
    (entries_of c.loop-way.stack.items c.loop-way.state.base.saved) (entries_of c.step.new.stack.items c.step.new.state.base.saved) c.args.state.now.state c.loop-way.state.state c.step.new.state.state c.in-Some.way i.attempt.tid (i.same known st) (rw c.in-Some.is at (c.in_ok-way.ensures.turns known))
