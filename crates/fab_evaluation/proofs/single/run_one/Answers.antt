use Rattle.std.proofs.Common.{List, ap, ◌∙◌}
use Rattle.fab_base.specs.declared.object.Value.{Value}
use Rattle.fab_language.specs.Meaning.{locals_at_start}
use Rattle.fab_stack.specs.Points.{Point, with_locals}
use Rattle.fab_stack.specs.Stacks.{entries_of}
use Rattle.fab_eval.proofs.Calling.{none_at, some_at}
use Rattle.fab_evaluation.proofs.Running.{none_single, run_meant, single_of}
use Rattle.fab_evaluation.proofs.single.run_one.Goals as goal

pub returns-in_default : goal.returns-in_default
returns-in_default c =
    let program = c.args.program.now in
    let none = let l = rw c.as_slice.ensures at c.in_default.ensures.lookup in none_at program.methods c.args.request.now.method l.3 in
    rw c.new.ensures (none_single program c.args.objects.now c.args.request.now none)

pub returns : goal.returns
returns c =
    let program = c.args.program.now in
    let known = c.args.objects.now in
    let request = c.args.request.now in
    let first = c.in-Some.first.now in
    let some = let l = rw c.as_slice.ensures at c.in-Some.ensures.lookup in some_at program.methods request.method first l.3.0 l.1 in
    let locals = c.in_ok-locals.ensures ∙ ap (locals_at_start first) (c.in_ok-args.ensures ∙ c.as_slice-2.ensures) in
    let begun =
    c.in_ok-stack.ensures.locals
    ∙ ap (λ (l : List Value). with_locals l c.in_ok-state.state) locals
    ∙ ap (λ (x : Point). with_locals (locals_at_start first request.args) x) c.in_ok-state.ensures in
    single_of program known request c.rows.ensures.ascending c.in_ok-way.way c.run.new.state.state c.single_at.result
    (run_meant program known request first some c.rows.ensures.ascending c.in_ok-way.way
    (entries_of c.run.new.stack.items c.run.new.state.base.saved) c.run.new.state.state
    (entries_of c.in_ok-stack.stack.items c.begun.new.state.base.saved) c.begun.new.state c.in_ok-stack.ensures.entries begun c.in_ok-way.ensures.runs)
    c.single_at.ensures.ending c.single_at.ensures.changed
