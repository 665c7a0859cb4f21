use Rattle.std.proofs.Common.{◌≡◌, ap, refl, ◌∙◌, length, arith, ◌++◌, ◌∷◌, []}
use Rattle.fab_stack.specs.Points.{under}
use Rattle.fab_stack.specs.Stacks.{entries_of, place}
use Rattle.fab_language.specs.Meaning.{failed}
use Rattle.fab_left.specs.Left.{rest, returning}
use Rattle.fab_left.specs.Steps.{ended}
use Rattle.fab_stack.proofs.Stacks.{counts_back, counts_try}
use Rattle.fab_stack.proofs.Running.{unwinds_block, unwinds_call, caught, unwound_stems, caught_stem, nothing}
use Rattle.fab_stack.proofs.stepping.unwind.Goals as goal

pub down-preserved-in-Rest : goal.down-preserved-in-Rest
down-preserved-in-Rest c =
    let heaps = c.down.state.base.saved in
    let e = c.in-Some.ensures.items ∙ ap (λ k. c.pop.new.self.items ++ k ∷ []) c.in-Rest.is in
    record {
      same = λ m first more. c.down.invariant.same m first more ∙ unwinds_block m first c.down.stack.items c.pop.new.self.items _ (place c.in-Rest.method.now c.in-Rest.depth) c.in-Rest.statements.now heaps c.down.state.state more e refl refl;
      stem = λ tid known st. unwound_stems tid known c.down.stack.items c.pop.new.self.items _ (rest (place c.in-Rest.method.now c.in-Rest.depth) c.in-Rest.statements.now) heaps c.down.state.state c.down.state.state.locals e refl refl (c.down.invariant.stem tid known st);
      matched = counts_back c.down.stack.items c.pop.new.self.items _ (length heaps) e refl c.down.invariant.matched;
      base = c.down.invariant.base;
      fuel = c.down.invariant.fuel;
      room = omega (arith, c.in-Some.ensures.rest, c.down.invariant.room);
    }

pub down-preserved : goal.down-preserved
down-preserved c =
    let heaps = c.down.state.base.saved in
    let e = c.in-Some.ensures.items ∙ ap (λ k. c.pop.new.self.items ++ k ∷ []) c.in-Returning.is in
    let callee = place c.in-Returning.callee.now c.in-Returning.depth in
    let caller = place c.in-Returning.caller.now c.in-Returning.caller_depth in
    rw c.exchange.ensures.after (record {
      same = λ m first more. c.down.invariant.same m first more ∙ unwinds_call m first c.down.stack.items c.pop.new.self.items _ callee caller c.in-Returning.locals.items c.in-Returning.target heaps c.down.state.state more e refl refl;
      stem = λ tid known st. unwound_stems tid known c.down.stack.items c.pop.new.self.items _ (returning callee caller c.in-Returning.locals.items c.in-Returning.target) heaps c.down.state.state c.in-Returning.locals.items e refl refl (c.down.invariant.stem tid known st);
      matched = counts_back c.down.stack.items c.pop.new.self.items _ (length heaps) e refl c.down.invariant.matched;
      base = c.down.invariant.base;
      fuel = c.down.invariant.fuel;
      room = omega (arith, c.in-Some.ensures.rest, c.down.invariant.room);
    })

pub returns-in-Tried-clause-unwinds : goal.returns-in-Tried-clause-unwinds
returns-in-Tried-clause-unwinds c = λ m first tid known st.
    let heaps = c.down.state.base.saved in
    let e = c.in-Some.ensures.items ∙ ap (λ k. c.pop.new.self.items ++ k ∷ []) c.in-Tried.is in
    let p = place c.in-Tried.method.now c.in-Tried.depth in
    rw c.abort.ensures (
      (λ more. c.down.invariant.same m first more ∙ caught m first c.down.stack.items c.pop.new.self.items c.put.new.stack.items _ p c.in-Tried.locals.items c.in-Tried.otherwise.now heaps c.down.state.state more e refl c.down.invariant.matched refl (c.in_ok-put-in-Tried.ensures.entries (under heaps))),
      caught_stem tid known c.down.stack.items c.pop.new.self.items c.put.new.stack.items _ p c.in-Tried.locals.items c.in-Tried.otherwise.now heaps c.down.state.state e refl c.down.invariant.matched refl (c.in_ok-put-in-Tried.ensures.entries (under heaps)) (c.down.invariant.stem tid known st),
    )

pub returns-in-Tried-clause-matched : goal.returns-in-Tried-clause-matched
returns-in-Tried-clause-matched c =
    let heaps = c.down.state.base.saved in
    let e = c.in-Some.ensures.items ∙ ap (λ k. c.pop.new.self.items ++ k ∷ []) c.in-Tried.is in
    rw c.abort.ensures (c.in_ok-put-in-Tried.ensures.trials ∙ counts_try c.down.stack.items c.pop.new.self.items _ heaps e refl c.down.invariant.matched)

pub returns-clause-unwinds : goal.returns-clause-unwinds
returns-clause-unwinds c = λ m first tid known st more.
    let empty : length c.down.stack.items ≡ 0 = omega (arith, c.in_default.ensures.cases.0) in
    c.down.invariant.same m first more ∙ ap (λ l. ended m first (entries_of l c.down.state.base.saved) failed c.down.state.state more) (nothing c.down.stack.items empty)
