use Rattle.std.proofs.Common.{ap, refl, length, subst, ◌∙◌}
use Rattle.fab_stack.specs.declared.stack.Call.{Call}
use Rattle.fab_stack.specs.Calls.{Calls}
use Rattle.fab_stack.specs.Points.{Point}
use Rattle.fab_stack.specs.Stacks.{entries_of}
use Rattle.fab_stack.proofs.Stacks.{counts_same}
use Rattle.fab_stack.proofs.Calling.{call_deep, call_skips, call_none, call_enters}
use Rattle.fab_stack.proofs.stepping.enter.Goals as goal

pub returns-then-depth-eq0-clause-steps : goal.returns-then-depth-eq0-clause-steps
returns-then-depth-eq0-clause-steps g c = λ first known s before e st.
    let tid = c.args.state.now.base.tid in
    let acts = c.args.acts.now in
    let program = c.args.program.now in
    let m = g.A.Acts.means acts program tid in
    let calls = subst (λ (x : Call). Calls m c.args.caller.now c.args.number c.args.args x) c.in-Absent.is (c.in_ok-call.ensures tid c.args.caller.now) in
    call_deep m tid (g.A.Acts.does acts program tid) (g.met.A.Acts.split acts program tid) c.args.caller.now c.args.number c.args.args first known (entries_of c.args.stack.now.items c.args.state.now.base.saved) s c.args.others.now before c.args.state.now.state c.args.target c.args.depth e st calls.0 c.if-depth-eq0.true

pub returns-then-depth-eq0-2-clause-steps : goal.returns-then-depth-eq0-2-clause-steps
returns-then-depth-eq0-2-clause-steps g c = λ first known s before e st.
    let tid = c.args.state.now.base.tid in
    let acts = c.args.acts.now in
    let program = c.args.program.now in
    let m = g.A.Acts.means acts program tid in
    let calls = subst (λ (x : Call). Calls m c.args.caller.now c.args.number c.args.args x) c.in-Runs.is (c.in_ok-call.ensures tid c.args.caller.now) in
    call_deep m tid (g.A.Acts.does acts program tid) (g.met.A.Acts.split acts program tid) c.args.caller.now c.args.number c.args.args first known (entries_of c.args.stack.now.items c.args.state.now.base.saved) s c.args.others.now before c.args.state.now.state c.args.target c.args.depth e st calls.0 c.if-depth-eq0-2.true

pub returns-in-Skipped-clause-steps : goal.returns-in-Skipped-clause-steps
returns-in-Skipped-clause-steps g c = λ first known s before e st.
    let tid = c.args.state.now.base.tid in
    let acts = c.args.acts.now in
    let program = c.args.program.now in
    let m = g.A.Acts.means acts program tid in
    let calls = subst (λ (x : Call). Calls m c.args.caller.now c.args.number c.args.args x) c.in-Skipped.is (c.in_ok-call.ensures tid c.args.caller.now) in
    rw c.hand.ensures.base (call_skips m tid (g.A.Acts.does acts program tid) (g.met.A.Acts.split acts program tid) c.args.caller.now c.args.number c.args.args first known (entries_of c.args.stack.now.items c.args.state.now.base.saved) s c.args.others.now before c.args.state.now.state c.args.target c.args.depth e st
    _ c.hand.new.state.state c.in-Skipped.value calls (c.hand.ensures.gives program tid c.args.depth) refl)

pub returns-else-depth-eq0-clause-steps : goal.returns-else-depth-eq0-clause-steps
returns-else-depth-eq0-clause-steps g c = λ first known s before e st.
    let tid = c.args.state.now.base.tid in
    let acts = c.args.acts.now in
    let program = c.args.program.now in
    let m = g.A.Acts.means acts program tid in
    let calls = subst (λ (x : Call). Calls m c.args.caller.now c.args.number c.args.args x) c.in-Absent.is (c.in_ok-call.ensures tid c.args.caller.now) in
    rw c.hand-in-Absent.ensures.base (call_none m tid (g.A.Acts.does acts program tid) (g.met.A.Acts.split acts program tid) c.args.caller.now c.args.number c.args.args first known (entries_of c.args.stack.now.items c.args.state.now.base.saved) s c.args.others.now before c.args.state.now.state c.args.target c.args.depth e st
    _ c.hand-in-Absent.new.state.state c.if-depth-eq0.false calls.1 (c.hand-in-Absent.ensures.gives program tid c.args.depth) refl)

pub returns-in_ok-push-in-Runs-clause-steps : goal.returns-in_ok-push-in-Runs-clause-steps
returns-in_ok-push-in-Runs-clause-steps g c = λ first known s before e st.
    let tid = c.args.state.now.base.tid in
    let acts = c.args.acts.now in
    let program = c.args.program.now in
    let m = g.A.Acts.means acts program tid in
    let calls = subst (λ (x : Call). Calls m c.args.caller.now c.args.number c.args.args x) c.in-Runs.is (c.in_ok-call.ensures tid c.args.caller.now) in
    rw (ap (λ (p : Point). p.base) c.exchange-locals.ensures.after) (call_enters m tid (g.A.Acts.does acts program tid) (g.met.A.Acts.split acts program tid) c.args.caller.now c.args.number c.args.args first known (entries_of c.args.stack.now.items c.args.state.now.base.saved) s c.args.others.now before c.args.state.now.state c.args.target c.args.depth e st
    c.put.new.stack.items c.push.new.self.items _ c.args.state.now.base.saved c.exchange-locals.new.self.state c.in-Runs.callee.now c.as_slice.result.now c.exchange-locals.result.items c.in-Runs.locals.items
    c.if-depth-eq0-2.false calls.1 (ap (λ (p : Point). p.state) c.exchange-locals.ensures.after) c.exchange-locals.ensures.before c.as_slice.ensures (c.in_ok-put-in-Runs.ensures.entries c.args.state.now.base.saved) c.in_ok-push-in-Runs.ensures.items refl refl)

pub returns-in_ok-push-in-Runs-clause-matched : goal.returns-in_ok-push-in-Runs-clause-matched
returns-in_ok-push-in-Runs-clause-matched g c =
    rw (ap (λ (p : Point). p.base) c.exchange-locals.ensures.after)
    (counts_same c.put.new.stack.items c.push.new.self.items _ (length c.args.state.now.base.saved) c.in_ok-push-in-Runs.ensures.items refl (c.in_ok-put-in-Runs.ensures.trials ∙ c.requires.matched))
