use Rattle.std.proofs.Common.{refl, ◌++◌, ◌∷◌, [], ◌∙◌, arith}
use Rattle.fab_stack.specs.Stacks.{entries_of, place, in_hand}
use Rattle.fab_stack.proofs.Nexting.{empty}
use Rattle.fab_stack.proofs.Running.{run_on, run_falls}
use Rattle.fab_stack.proofs.stepping.next.Goals as goal

pub returns-in-Err-clause-steps : goal.returns-in-Err-clause-steps
returns-in-Err-clause-steps g c = λ first known st.
    let b = c.args.state.now.base in
    let i = c.on.invariant in
    run_falls (g.A.Acts.means c.args.acts.now c.args.program.now) first known b.tid c.on.state.base.tid (entries_of c.args.stack.now.items b.saved ++ in_hand c.args.hand ∷ []) (entries_of c.on.stack.items c.on.state.base.saved ++ in_hand c.on.hand ∷ [])
    (entries_of c.through.new.stack.items c.through.new.state.base.saved) c.args.state.now.state c.on.state.state c.through.new.state.state c.in-Err.fall i.attempt.tid (i.same first known st) (c.in-Err.ensures.steps first known)

pub on-preserved : goal.on-preserved
on-preserved g c =
    let b = c.args.state.now.base in
    let i = c.on.invariant in
    record {
      same = λ first known st. run_on (g.A.Acts.means c.args.acts.now c.args.program.now) first known b.tid c.on.state.base.tid (entries_of c.args.stack.now.items b.saved ++ in_hand c.args.hand ∷ []) (entries_of c.on.stack.items c.on.state.base.saved ++ in_hand c.on.hand ∷ [])
          (entries_of c.through.new.stack.items c.through.new.state.base.saved ++ in_hand c.in-Ok.then ∷ []) c.args.state.now.state c.on.state.state c.through.new.state.state i.attempt.tid (i.same first known st) (c.in-Ok.ensures.steps first known);
      matched = c.in-Ok.ensures.matched;
      attempt = record { tid = c.in-Ok.ensures.attempt.tid ∙ i.attempt.tid; versions = c.in-Ok.ensures.attempt.versions ∙ i.attempt.versions };
      shorter = omega (arith, c.in-Ok.ensures.bound, i.shorter);
    }

pub returns-clause-steps : goal.returns-clause-steps
returns-clause-steps g c = λ first known st.
    let tid = c.args.state.now.base.tid in
    let acts = c.args.acts.now in
    let program = c.args.program.now in
    let i = c.on.invariant.same first known st in
    let e = empty (g.A.Acts.means acts program tid) tid (g.A.Acts.does acts program tid) (g.met.A.Acts.split acts program tid) first known (entries_of c.on.stack.items c.on.state.base.saved) _ (place c.on.hand.method.now c.on.hand.depth) c.on.state.state c.on.state.state refl c.on.hand.statements.now c.in_default.ensures.cases i.stem refl in
    record { same = λ more fresh. i.same more fresh ∙ e.same more fresh; stem = e.stem }
