use Rattle.std.proofs.Common.{◌≡◌, List, Some, None, ap, subst, ◌∙◌}
use Rattle.std.specs.Prelude.{slice_get}
use Rattle.fab_base.specs.declared.object.Value.{Value}
use Rattle.fab_tree.specs.declared.resolved.Resolved.{Resolved}
use Rattle.fab_language.specs.Meaning.{locals_at_start}
use Rattle.fab_stack.specs.Points.{Point, with_locals}
use Rattle.fab_eval.proofs.Beginning.{begun_left, none_begun}
use Rattle.fab_eval.proofs.Calling.{none_at, some_at}
use Rattle.fab_eval.proofs.Settling.{found_of}
use Rattle.fab_eval.proofs.found.from_start.Goals as goal

pub returns-in_default : goal.returns-in_default
returns-in_default c =
    let job = c.args.job.now in
    let none = let l = rw c.as_slice-2.ensures at c.in_default.ensures.lookup in none_at c.args.program.now.methods job.request.method l.3 in
    none_begun job c.in_ok-state.state c.over.result (subst (λ (x : Resolved). slice_get x.methods job.request.method ≡ None) c.requires.program none)
    (rw c.as_slice.ensures at c.in_ok-state.ensures) c.over.ensures.settles c.over.ensures.at

pub returns : goal.returns
returns c =
    let job = c.args.job.now in
    let first = c.in-Some.first.now in
    let some = let l = rw c.as_slice-2.ensures at c.in-Some.ensures.lookup in some_at c.args.program.now.methods job.request.method first l.3.0 l.1 in
    let begun = rw c.as_slice.ensures at c.in_ok-state.ensures in
    let locals = c.in_ok-locals.ensures ∙ ap (locals_at_start first) (c.in_ok-args.ensures ∙ c.as_slice-3.ensures) in
    found_of job c.args.program.now first c.in_ok-stack.stack.items c.begun.new.state c.going.result c.requires.program
    (begun_left job first c.in_ok-stack.stack.items c.begun.new.state (subst (λ (x : Resolved). slice_get x.methods job.request.method ≡ Some first) c.requires.program some)
    (c.in_ok-stack.ensures.locals ∙ ap (λ (l : List Value). with_locals l c.in_ok-state.state) locals ∙ ap (λ (x : Point). with_locals (locals_at_start first job.request.args) x) begun)
    c.in_ok-stack.ensures.entries c.in_ok-stack.ensures.matched) c.going.ensures
