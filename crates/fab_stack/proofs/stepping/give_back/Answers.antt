use Rattle.std.proofs.Common.{◌≡◌, ap, sym, refl, ◌∙◌, length, subst, ◌++◌, ◌∷◌, []}
use Rattle.fab_language.specs.Meaning.{goes}
use Rattle.fab_left.specs.Left.{handed, returning}
use Rattle.fab_stack.specs.Points.{Base, Point}
use Rattle.fab_stack.specs.Stacks.{entries_of, place}
use Rattle.fab_stack.proofs.Stacks.{put_one, counts_same, result_passes, result_fails, result_stops, result_misses}
use Rattle.fab_stack.proofs.Running.{stops_all, lacks_all}
use Rattle.fab_stack.proofs.stepping.give_back.Goals as goal

pub returns-in-Ok-clause-steps : goal.returns-in-Ok-clause-steps
returns-in-Ok-clause-steps g c = λ first known st.
    let tid = c.args.state.now.base.tid in
    let acts = c.args.acts.now in
    let program = c.args.program.now in
    let m = g.A.Acts.means acts program tid in
    let p = place c.args.caller.now c.args.caller_depth in
    rw (c.hand.ensures.base, ap (λ (x : Point). x.base) c.exchange.ensures.after, c.in-Ok.ensures.base)
    (result_passes m tid (g.A.Acts.does acts program tid) (g.met.A.Acts.split acts program tid) first known (entries_of c.args.stack.now.items c.args.state.now.base.saved) (place c.args.callee.now c.args.depth) p c.args.locals.items c.args.target c.args.state.now.state c.result_of.new.state.state c.hand.new.state.state c.in-Ok.value (c.in-Ok.ensures.gives tid c.args.depth)
    (subst (λ (x : Point). handed m p c.args.target c.in-Ok.value x.state ≡ goes tt c.hand.new.state.state) c.exchange.ensures.after (c.hand.ensures.gives program tid c.args.caller_depth)) st)

pub returns-in-Err-Ended-Failed-clause-steps : goal.returns-in-Err-Ended-Failed-clause-steps
returns-in-Err-Ended-Failed-clause-steps g c = λ first known st.
    let tid = c.args.state.now.base.tid in
    let acts = c.args.acts.now in
    let program = c.args.program.now in
    rw (ap (λ (x : Point). x.base) c.exchange-in-Err-Ended-Failed.ensures.after, c.in-Err-Ended-Failed.ensures.base)
    (result_fails (g.A.Acts.means acts program tid) tid (g.A.Acts.does acts program tid) (g.met.A.Acts.split acts program tid) first known (entries_of c.args.stack.now.items c.args.state.now.base.saved)
    (place c.args.callee.now c.args.depth) (place c.args.caller.now c.args.caller_depth) c.args.locals.items c.args.target c.args.state.now.state c.result_of.new.state.state _
    (rw (c.in-Err-Ended-Failed.field-0-is, c.in-Err-Ended-Failed.field-0-0-is) at (c.in-Err-Ended-Failed.ensures.gives tid c.args.depth)) (ap (λ (x : Point). x.state) c.exchange-in-Err-Ended-Failed.ensures.after) st)

pub returns-in-Err-Ended-Stopped-clause-steps : goal.returns-in-Err-Ended-Stopped-clause-steps
returns-in-Err-Ended-Stopped-clause-steps g c = λ first known st.
    let tid = c.args.state.now.base.tid in
    let acts = c.args.acts.now in
    let program = c.args.program.now in
    let callee = place c.args.callee.now c.args.depth in
    let caller = place c.args.caller.now c.args.caller_depth in
    let u = c.result_of.new.state.state in
    stops_all (g.A.Acts.means acts program tid) first tid known (entries_of c.args.stack.now.items c.args.state.now.base.saved ++ returning callee caller c.args.locals.items c.args.target ∷ []) (entries_of c.args.stack.now.items c.args.state.now.base.saved) c.args.state.now.state (record u { locals = c.args.locals.items }) c.in-Err-Ended-Stopped.stop
    (result_stops (g.A.Acts.means acts program tid) tid (g.A.Acts.does acts program tid) (g.met.A.Acts.split acts program tid) first known (entries_of c.args.stack.now.items c.args.state.now.base.saved) callee caller c.args.locals.items c.args.target c.args.state.now.state u (record u { locals = c.args.locals.items }) c.in-Err-Ended-Stopped.stop
    (rw (c.in-Err-Ended-Stopped.field-0-is, c.in-Err-Ended-Stopped.field-0-0-is) at (c.in-Err-Ended-Stopped.ensures.gives tid c.args.depth)) refl st)

pub returns-in_ok-push-in-Err-Ended-Missing-clause-steps : goal.returns-in_ok-push-in-Err-Ended-Missing-clause-steps
returns-in_ok-push-in-Err-Ended-Missing-clause-steps g c = λ first known st.
    let tid = c.args.state.now.base.tid in
    let acts = c.args.acts.now in
    let program = c.args.program.now in
    let callee = place c.args.callee.now c.args.depth in
    let caller = place c.args.caller.now c.args.caller_depth in
    let u = c.result_of.new.state.state in
    lacks_all (g.A.Acts.means acts program tid) first tid known (entries_of c.args.stack.now.items c.args.state.now.base.saved ++ returning callee caller c.args.locals.items c.args.target ∷ []) _ c.args.state.now.state u c.in-Err-Ended-Missing.site c.in-Err-Ended-Missing.oid
    c.fuel-fuel.result c.touch_counts-pairs.result.0 c.touch_counts-pairs.result.1 c.fuel-fuel.ensures c.touch_counts-pairs.ensures.pairs c.touch_counts-pairs.ensures.objects st
    (result_misses (g.A.Acts.means acts program tid) tid (g.A.Acts.does acts program tid) (g.met.A.Acts.split acts program tid) first known (entries_of c.args.stack.now.items c.args.state.now.base.saved) callee caller c.args.locals.items c.args.target c.args.state.now.state u c.in-Err-Ended-Missing.site c.in-Err-Ended-Missing.oid _
    (rw (c.in-Err-Ended-Missing.field-0-is, c.in-Err-Ended-Missing.field-0-0-is) at (c.in-Err-Ended-Missing.ensures.gives tid c.args.depth))
    (ap (λ (b : Base). entries_of c.push.new.self.items b.saved) c.in-Err-Ended-Missing.ensures.base ∙ put_one c.args.stack.now.items c.push.new.self.items _ c.args.state.now.base.saved c.in_ok-push-in-Err-Ended-Missing.ensures.items refl))

pub returns-in_ok-push-in-Err-Ended-Missing-clause-matched : goal.returns-in_ok-push-in-Err-Ended-Missing-clause-matched
returns-in_ok-push-in-Err-Ended-Missing-clause-matched g c =
    counts_same c.args.stack.now.items c.push.new.self.items _ _ c.in_ok-push-in-Err-Ended-Missing.ensures.items refl (c.requires.matched ∙ sym (ap (λ (b : Base). length b.saved) c.in-Err-Ended-Missing.ensures.base))
