use Rattle.std.proofs.Common.{sym, subst, List, []}
use Rattle.fab_left.specs.Left.{AllStem, at_start}
use Rattle.fab_stack.specs.declared.stack.Entry.{Entry}
use Rattle.fab_stack.specs.Stacks.{entries_of}
use Rattle.fab_stack.specs.Stepping.{GoesOn, FailsSo, Runs}
use Rattle.fab_stack.proofs.Running.{fails_on, fails_all}
use Rattle.fab_stack.proofs.stepping.step.Goals as goal

pub returns-then-branch-clause-turns : goal.returns-then-branch-clause-turns
returns-then-branch-clause-turns g c = λ known st.
    let b = c.args.state.now.base in
    let s = c.args.state.now.state in
    let m = g.A.Acts.means c.args.acts.now c.args.program.now b.tid in
    let first = at_start c.args.first.now in
    let js = entries_of c.args.stack.now.items b.saved in
    let ks = entries_of c.advance.new.stack.items c.advance.new.state.base.saved in
    let u = c.advance.new.state.state in
    let e = rw c.in-Err-Failed.field-0-is at (c.in-Err-Failed.ensures.steps first known) in
    let f = subst (λ (items : List Entry). AllStem b.tid known (entries_of items b.saved) s → FailsSo m first b.tid known (entries_of items b.saved) s ks u) (sym c.in-Some.ensures.items) e st in
    fails_on m first b.tid known js (entries_of c.unwind.new.stack.items c.unwind.new.state.base.saved) s c.unwind.new.state.state ks u f (rw c.if-branch.true at (c.in_ok-unwind-in-Err-Failed.ensures.unwinds m first b.tid known f.stem))

pub returns-in-Ok-clause-turns : goal.returns-in-Ok-clause-turns
returns-in-Ok-clause-turns g c = λ known st.
    let b = c.args.state.now.base in
    let s = c.args.state.now.state in
    let m = g.A.Acts.means c.args.acts.now c.args.program.now b.tid in
    let first = at_start c.args.first.now in
    let js = entries_of c.args.stack.now.items b.saved in
    let ks = entries_of c.advance.new.stack.items c.advance.new.state.base.saved in
    let u = c.advance.new.state.state in
    subst (λ (items : List Entry). AllStem b.tid known (entries_of items b.saved) s → GoesOn m first b.tid known (entries_of items b.saved) s ks u) (sym c.in-Some.ensures.items) (c.in-Ok.ensures.steps first known) st

pub returns-else-branch-clause-turns : goal.returns-else-branch-clause-turns
returns-else-branch-clause-turns g c = λ known st.
    let b = c.args.state.now.base in
    let s = c.args.state.now.state in
    let m = g.A.Acts.means c.args.acts.now c.args.program.now b.tid in
    let first = at_start c.args.first.now in
    let js = entries_of c.args.stack.now.items b.saved in
    let ks = entries_of c.advance.new.stack.items c.advance.new.state.base.saved in
    let u = c.advance.new.state.state in
    let e = rw c.in-Err-Failed.field-0-is at (c.in-Err-Failed.ensures.steps first known) in
    let f = subst (λ (items : List Entry). AllStem b.tid known (entries_of items b.saved) s → FailsSo m first b.tid known (entries_of items b.saved) s ks u) (sym c.in-Some.ensures.items) e st in
    fails_all m first b.tid known js [] s c.unwind.new.state.state ks u f (rw c.if-branch.false at (c.in_ok-unwind-in-Err-Failed.ensures.unwinds m first b.tid known f.stem))

pub returns-in-Err-Ended-clause-turns : goal.returns-in-Err-Ended-clause-turns
returns-in-Err-Ended-clause-turns g c = λ known st.
    let b = c.args.state.now.base in
    let s = c.args.state.now.state in
    let m = g.A.Acts.means c.args.acts.now c.args.program.now b.tid in
    let first = at_start c.args.first.now in
    let ks = entries_of c.advance.new.stack.items c.advance.new.state.base.saved in
    let u = c.advance.new.state.state in
    let e = rw c.in-Err-Ended.field-0-is at (c.in-Err-Ended.ensures.steps first known) in
    subst (λ (items : List Entry). AllStem b.tid known (entries_of items b.saved) s → Runs m first b.tid known c.in-Err-Ended.way (entries_of items b.saved) s ks u) (sym c.in-Some.ensures.items) e st
