use Rattle.std.proofs.Common.{ap, sym, refl, length, subst, List, ◌++◌, ◌∷◌, []}
use Rattle.fab_left.specs.Left as left
use Rattle.fab_left.specs.Left.{AllStem}
use Rattle.fab_stack.specs.Points.{under}
use Rattle.fab_stack.specs.Stacks.{entries_of, place, heap_at}
use Rattle.fab_stack.specs.Stepping.{GoesOn, Steps}
use Rattle.fab_stack.proofs.Stacks.{put_one, counts_back, take_try, counts_try, trial_passes}
use Rattle.fab_stack.proofs.stepping.advance.Goals as goal

pub next-requires : goal.next-requires
next-requires g c =
    let items = c.args.stack.now.items in
    record { matched = counts_back (items ++ c.args.entry ∷ []) items _ (length c.args.state.now.base.saved) (ap (λ k. items ++ k ∷ []) c.in-Rest.is) refl c.requires.matched }

pub returns-in-Rest-clause-steps : goal.returns-in-Rest-clause-steps
returns-in-Rest-clause-steps g c = λ first known st.
    let items = c.args.stack.now.items in
    let b = c.args.state.now.base in
    let s = c.args.state.now.state in
    subst (λ (l : List left.Entry). AllStem b.tid known l s → Steps (g.A.Acts.means c.args.acts.now c.args.program.now b.tid) first b.tid known c.next.result l s (entries_of c.next.new.stack.items c.next.new.state.base.saved) c.next.new.state.state)
    (sym (put_one items (items ++ c.args.entry ∷ []) _ b.saved (ap (λ k. items ++ k ∷ []) c.in-Rest.is) refl)) (c.next.ensures.steps first known) st

pub returns-in-Tried-clause-steps : goal.returns-in-Tried-clause-steps
returns-in-Tried-clause-steps g c = λ first known st.
    let items = c.args.stack.now.items in
    let b = c.args.state.now.base in
    let s = c.args.state.now.state in
    let m = g.A.Acts.means c.args.acts.now c.args.program.now b.tid in
    let ks = entries_of items (under b.saved) in
    rw c.in_ok-merge-in-Tried.ensures.merged (subst (λ (l : List left.Entry). AllStem b.tid known l s → GoesOn m first b.tid known l s ks s)
    (sym (take_try (items ++ c.args.entry ∷ []) items _ b.saved (ap (λ k. items ++ k ∷ []) c.in-Tried.is) refl c.requires.matched))
    (λ h. trial_passes m b.tid (g.A.Acts.does c.args.acts.now c.args.program.now b.tid) (g.met.A.Acts.split c.args.acts.now c.args.program.now b.tid) first known ks ks (place c.in-Tried.method.now c.in-Tried.depth) c.in-Tried.locals.items (heap_at 0 b.saved) c.in-Tried.otherwise.now s h refl) st)

pub returns-in-Tried-clause-matched : goal.returns-in-Tried-clause-matched
returns-in-Tried-clause-matched g c =
    let items = c.args.stack.now.items in
    rw c.in_ok-merge-in-Tried.ensures.merged (counts_try (items ++ c.args.entry ∷ []) items _ c.args.state.now.base.saved (ap (λ k. items ++ k ∷ []) c.in-Tried.is) refl c.requires.matched)

pub give_back-requires : goal.give_back-requires
give_back-requires g c =
    let items = c.args.stack.now.items in
    record { matched = counts_back (items ++ c.args.entry ∷ []) items _ (length c.args.state.now.base.saved) (ap (λ k. items ++ k ∷ []) c.in-Returning.is) refl c.requires.matched }

pub returns-clause-steps : goal.returns-clause-steps
returns-clause-steps g c = λ first known st.
    let items = c.args.stack.now.items in
    let b = c.args.state.now.base in
    let s = c.args.state.now.state in
    subst (λ (l : List left.Entry). AllStem b.tid known l s → Steps (g.A.Acts.means c.args.acts.now c.args.program.now b.tid) first b.tid known c.give_back.result l s (entries_of c.give_back.new.stack.items c.give_back.new.state.base.saved) c.give_back.new.state.state)
    (sym (put_one items (items ++ c.args.entry ∷ []) _ b.saved (ap (λ k. items ++ k ∷ []) c.in-Returning.is) refl)) (c.give_back.ensures.steps first known) st
