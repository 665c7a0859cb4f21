use Rattle.std.proofs.Common.{refl, ap, ◌∙◌}
use Rattle.fab_left.specs.Deeds.{passed}
use Rattle.fab_stack.specs.Points.{Point}
use Rattle.fab_stack.specs.Stacks.{entries_of, place}
use Rattle.fab_stack.proofs.Stacks.{leads_here}
use Rattle.fab_stack.proofs.Behind.{leads_into, leads_again, leads_try}
use Rattle.fab_stack.proofs.stepping.follow.Goals as goal

pub returns-in-Passed-clause-steps : goal.returns-in-Passed-clause-steps
returns-in-Passed-clause-steps g c = λ first known s before is e st.
    let tid = c.args.state.now.base.tid in
    let acts = c.args.acts.now in
    let program = c.args.program.now in
    let a = rw c.in-Passed.is at e in
    leads_here (g.A.Acts.means acts program tid) tid (g.A.Acts.does acts program tid) (g.met.A.Acts.split acts program tid) first known (entries_of c.args.stack.now.items c.args.state.now.base.saved) (place c.args.hand.method.now c.args.hand.depth) s c.args.others.now before c.args.state.now.state passed _ tt a st refl

pub returns-in_ok-put-in-Into-clause-steps : goal.returns-in_ok-put-in-Into-clause-steps
returns-in_ok-put-in-Into-clause-steps g c = λ first known s before is e st.
    let tid = c.args.state.now.base.tid in
    let acts = c.args.acts.now in
    let program = c.args.program.now in
    let a = rw c.in-Into.is at e in
    leads_into (g.A.Acts.means acts program tid) tid (g.A.Acts.does acts program tid) (g.met.A.Acts.split acts program tid) first known (entries_of c.args.stack.now.items c.args.state.now.base.saved) (place c.args.hand.method.now c.args.hand.depth) s c.args.others.now before c.args.state.now.state st c.in-Into.block.now _ a
    (c.in_ok-put-in-Into.ensures.entries c.args.state.now.base.saved)

pub returns-in_ok-put-in-Into-clause-matched : goal.returns-in_ok-put-in-Into-clause-matched
returns-in_ok-put-in-Into-clause-matched g c = c.in_ok-put-in-Into.ensures.trials ∙ c.requires.matched

pub returns-in_ok-put-in-Again-clause-steps : goal.returns-in_ok-put-in-Again-clause-steps
returns-in_ok-put-in-Again-clause-steps g c = λ first known s before is e st.
    let tid = c.args.state.now.base.tid in
    let acts = c.args.acts.now in
    let program = c.args.program.now in
    let a = rw c.in-Again.is at e in
    leads_again (g.A.Acts.means acts program tid) tid (g.A.Acts.does acts program tid) (g.met.A.Acts.split acts program tid) first known (entries_of c.args.stack.now.items c.args.state.now.base.saved) (place c.args.hand.method.now c.args.hand.depth) s c.args.others.now before c.args.state.now.state st c.in-Again.block.now c.args.hand.statements.now _ is a
    (c.in_ok-put-in-Again.ensures.entries c.args.state.now.base.saved)

pub returns-in_ok-put-in-Again-clause-matched : goal.returns-in_ok-put-in-Again-clause-matched
returns-in_ok-put-in-Again-clause-matched g c = c.in_ok-put-in-Again.ensures.trials ∙ c.requires.matched

pub returns-in_ok-attempt-in-Try-clause-steps : goal.returns-in_ok-attempt-in-Try-clause-steps
returns-in_ok-attempt-in-Try-clause-steps g c = λ first known s before is e st.
    let tid = c.args.state.now.base.tid in
    let acts = c.args.acts.now in
    let program = c.args.program.now in
    let a = rw c.in-Try.is at e in
    let u = ap (λ (x : Point). x.state) c.in_ok-attempt-in-Try.ensures.saved in
    rw u (leads_try (g.A.Acts.means acts program tid) tid (g.A.Acts.does acts program tid) (g.met.A.Acts.split acts program tid) first known (entries_of c.args.stack.now.items c.args.state.now.base.saved) (place c.args.hand.method.now c.args.hand.depth) s c.args.others.now before c.args.state.now.state st c.in-Try.block.now c.in-Try.otherwise.now _ _ a refl c.in_ok-attempt-in-Try.ensures.entries)

pub returns-in-Enter-clause-steps : goal.returns-in-Enter-clause-steps
returns-in-Enter-clause-steps g c = λ first known s before is e st.
    let a = rw c.in-Enter.is at e in
    c.enter.ensures.steps first known s before a st
