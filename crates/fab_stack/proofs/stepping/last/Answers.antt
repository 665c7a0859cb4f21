use Rattle.fab_stack.specs.Stacks.{place}
use Rattle.fab_stack.proofs.Running.{lacks_last}
use Rattle.fab_stack.proofs.stepping.last.Goals as goal

pub returns-in-Err-Ended-Missing-clause-runs : goal.returns-in-Err-Ended-Missing-clause-runs
returns-in-Err-Ended-Missing-clause-runs g c = λ depth known st.
    let tid = c.args.state.now.base.tid in
    let acts = c.args.acts.now in
    let program = c.args.program.now in
    lacks_last (g.A.Acts.means acts program tid) tid (g.A.Acts.does acts program tid) (g.met.A.Acts.split acts program tid) (place c.args.first.now depth) known
    c.args.state.now.state c.result_of.new.state.state c.in-Err-Ended-Missing.site c.in-Err-Ended-Missing.oid c.fuel-fuel.result c.touch_counts-pairs.result.0 c.touch_counts-pairs.result.1
    c.fuel-fuel.ensures c.touch_counts-pairs.ensures.pairs c.touch_counts-pairs.ensures.objects st
    (rw (c.in-Err-Ended-Missing.field-0-is, c.in-Err-Ended-Missing.field-0-0-is) at (c.in-Err-Ended-Missing.ensures.gives tid depth))
