use Rattle.std.proofs.Common.{ap, sym, refl, ◌∙◌, ◌++◌, ◌∷◌, [], length, subst, List, Err}
use Rattle.fab_tree.specs.declared.resolved.Statement.{Statement}
use Rattle.fab_left.specs.Left.{AllStem, rest}
use Rattle.fab_stack.specs.declared.halt.Halt.{Halt}
use Rattle.fab_stack.specs.declared.halt.Halt.TheVariants.{Ended}
use Rattle.fab_stack.specs.Leads.{Leads}
use Rattle.fab_stack.specs.Points.{Base}
use Rattle.fab_stack.specs.Stacks.{entries_of, place, in_hand}
use Rattle.fab_stack.specs.Stepping.{Strides}
use Rattle.fab_stack.proofs.Behind.{put_first}
use Rattle.fab_stack.proofs.Nexting.{fails_at, stops_at, misses_at}
use Rattle.fab_stack.proofs.Running.{stops_all, lacks_all}
use Rattle.fab_stack.proofs.stepping.through.Goals as goal

pub returns-in-Ok-clause-steps : goal.returns-in-Ok-clause-steps
returns-in-Ok-clause-steps g c = λ first known st.
    let tid = c.args.state.now.base.tid in
    let acts = c.args.acts.now in
    let program = c.args.program.now in
    let p = (place c.args.hand.method.now c.args.hand.depth) in
    let b = c.args.state.now.base in
    let m = g.A.Acts.means acts program tid in
    let ks = entries_of c.args.stack.now.items b.saved in
    let t = c.args.state.now.state in
    let on = rw c.in-Ok.ensures.base at (c.follow.ensures.steps first known c.args.s.now t c.requires.first) in
    subst (λ (l : List Statement). AllStem tid known (ks ++ rest p l ∷ []) t → Strides m first tid known c.follow.result (ks ++ rest p l ∷ []) t (entries_of c.follow.new.stack.items c.follow.new.state.base.saved) c.follow.new.state.state) (sym c.requires.first)
    (on (c.in-Ok.ensures.gives c.args.hand.depth)) st

pub returns-in-Err-Ended-Failed-clause-steps : goal.returns-in-Err-Ended-Failed-clause-steps
returns-in-Err-Ended-Failed-clause-steps g c = λ first known st.
    let tid = c.args.state.now.base.tid in
    let acts = c.args.acts.now in
    let program = c.args.program.now in
    let p = (place c.args.hand.method.now c.args.hand.depth) in
    fails_at (g.A.Acts.means acts program tid) tid (g.A.Acts.does acts program tid) (g.met.A.Acts.split acts program tid) first known (entries_of c.args.stack.now.items c.args.state.now.base.saved) _ p c.args.state.now.state c.act.new.state.state
    (ap (λ (b : Base). entries_of c.args.stack.now.items b.saved) c.in-Err-Ended-Failed.ensures.base) c.args.s.now c.args.others.now c.args.hand.statements.now c.requires.first
    (subst (λ (h : Halt). Leads (Err h) c.act.new.state (g.A.Acts.does acts program tid p c.args.s.now c.args.state.now.state)) (c.in-Err-Ended-Failed.field-0-is ∙ ap Ended c.in-Err-Ended-Failed.field-0-0-is) (c.in-Err-Ended-Failed.ensures.gives c.args.hand.depth)) st

pub returns-in-Err-Ended-Stopped-clause-steps : goal.returns-in-Err-Ended-Stopped-clause-steps
returns-in-Err-Ended-Stopped-clause-steps g c = λ first known st.
    let tid = c.args.state.now.base.tid in
    let acts = c.args.acts.now in
    let program = c.args.program.now in
    let p = (place c.args.hand.method.now c.args.hand.depth) in
    stops_all (g.A.Acts.means acts program tid) first tid known (entries_of c.args.stack.now.items c.args.state.now.base.saved ++ in_hand c.args.hand ∷ []) (entries_of c.args.stack.now.items c.args.state.now.base.saved) c.args.state.now.state c.act.new.state.state c.in-Err-Ended-Stopped.stop
    (stops_at (g.A.Acts.means acts program tid) tid (g.A.Acts.does acts program tid) (g.met.A.Acts.split acts program tid) first known (entries_of c.args.stack.now.items c.args.state.now.base.saved) _ p c.args.state.now.state c.act.new.state.state refl c.args.s.now c.args.others.now c.args.hand.statements.now c.in-Err-Ended-Stopped.stop c.requires.first
    (subst (λ (h : Halt). Leads (Err h) c.act.new.state (g.A.Acts.does acts program tid p c.args.s.now c.args.state.now.state)) (c.in-Err-Ended-Stopped.field-0-is ∙ ap Ended c.in-Err-Ended-Stopped.field-0-0-is) (c.in-Err-Ended-Stopped.ensures.gives c.args.hand.depth)) st)

pub returns-in_ok-put-in-Err-Ended-Missing-clause-steps : goal.returns-in_ok-put-in-Err-Ended-Missing-clause-steps
returns-in_ok-put-in-Err-Ended-Missing-clause-steps g c = λ first known st.
    let tid = c.args.state.now.base.tid in
    let acts = c.args.acts.now in
    let program = c.args.program.now in
    let p = (place c.args.hand.method.now c.args.hand.depth) in
    lacks_all (g.A.Acts.means acts program tid) first tid known (entries_of c.args.stack.now.items c.args.state.now.base.saved ++ in_hand c.args.hand ∷ []) _ c.args.state.now.state c.act.new.state.state c.in-Err-Ended-Missing.site c.in-Err-Ended-Missing.oid
    c.fuel-fuel.result c.touch_counts-pairs.result.0 c.touch_counts-pairs.result.1 c.fuel-fuel.ensures c.touch_counts-pairs.ensures.pairs c.touch_counts-pairs.ensures.objects st
    (misses_at (g.A.Acts.means acts program tid) tid (g.A.Acts.does acts program tid) (g.met.A.Acts.split acts program tid) first known (entries_of c.args.stack.now.items c.args.state.now.base.saved) _ p c.args.state.now.state c.act.new.state.state c.args.s.now c.args.others.now c.args.hand.statements.now c.in-Err-Ended-Missing.site c.in-Err-Ended-Missing.oid
    (ap (λ (b : Base). entries_of c.put.new.stack.items b.saved) c.in-Err-Ended-Missing.ensures.base
    ∙ put_first (entries_of c.args.stack.now.items c.args.state.now.base.saved) _ p c.args.s.now c.args.others.now c.args.hand.statements.now c.requires.first (c.in_ok-put-in-Err-Ended-Missing.ensures.entries c.args.state.now.base.saved))
    c.requires.first (subst (λ (h : Halt). Leads (Err h) c.act.new.state (g.A.Acts.does acts program tid p c.args.s.now c.args.state.now.state)) (c.in-Err-Ended-Missing.field-0-is ∙ ap Ended c.in-Err-Ended-Missing.field-0-0-is) (c.in-Err-Ended-Missing.ensures.gives c.args.hand.depth)))

pub returns-in_ok-put-in-Err-Ended-Missing-clause-matched : goal.returns-in_ok-put-in-Err-Ended-Missing-clause-matched
returns-in_ok-put-in-Err-Ended-Missing-clause-matched g c =
    c.in_ok-put-in-Err-Ended-Missing.ensures.trials ∙ c.requires.matched ∙ sym (ap (λ (b : Base). length b.saved) c.in-Err-Ended-Missing.ensures.base)
