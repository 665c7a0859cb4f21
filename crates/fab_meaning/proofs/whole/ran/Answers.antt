use Rattle.std.proofs.Common.{◌≡◌, ℕ, ◌<◌, List, length, Some, true, refl, sym, ap, ◌∙◌, subst, arith}
use Rattle.std.specs.Prelude.{slice_get}
use Rattle.std.proofs.lemmas.Bool.Decides.{nat_tests}
use Rattle.std.proofs.lemmas.Option.{slice_get_read}
use Rattle.fab_tree.specs.declared.resolved.Method.{Method}
use Rattle.fab_language.specs.Meaning.{meant_at}
use Rattle.fab_erasure.specs.Erased.{locals_at_start}
use Rattle.fab_stack.specs.Points.{with_locals}
use Rattle.fab_stack.specs.Stacks.{entries_of}
use Rattle.fab_meaning.specs.Ends.{ending_of}
use Rattle.fab_meaning.specs.Sights.{sees, shows}
use Rattle.fab_meaning.proofs.Ending.{run_meant}
use Rattle.fab_meaning.proofs.whole.ran.Goals as goal

pub returns : goal.returns
returns c =
    let s = c.args.sight in
    let first : Method = c.in-Some.first.now in
    let inside : c.from.result < length c.as_slice.result.now = grind (arith, nat_tests, c.in-Some.ensures.lookup.0) in
    let there : slice_get c.as_slice.result.now c.from.result ≡ Some first =
    slice_get_read c.as_slice.result.now (length c.as_slice.result.now) c.from.result first refl inside c.in-Some.ensures.lookup.1 in
    let is : slice_get c.args.program.now.methods c.args.request.now.method ≡ Some first =
    subst (λ (i : ℕ). slice_get c.args.program.now.methods i ≡ Some first) c.from.ensures (subst (λ (ms : List Method). slice_get ms c.from.result ≡ Some first) c.as_slice.ensures there) in
    let seen : sees s first.begin.number ≡ true = sym c.sees.ensures ∙ c.if-not-sees.false in
    run_meant s c.args.program.now c.args.known.now c.args.request.now c.args.tid c.args.fuel c.args.given.now first is seen c.rows.ensures.ascending
    c.in_ok-way.way (entries_of c.run.new.stack.items c.run.new.state.base.saved) c.run.new.state.state
    (entries_of c.in_ok-stack.stack.items c.begun.new.state.base.saved) c.begun.new.state c.in_ok-locals.locals.items c.in_ok-stack.ensures.entries
    (c.in_ok-locals.ensures ∙ ap (locals_at_start (sees s) (shows s) first) c.as_slice-2.ensures)
    (c.in_ok-stack.ensures.locals ∙ ap (with_locals c.in_ok-locals.locals.items) c.in_ok-state.ensures)
    c.in_ok-way.ensures.runs
    ∙ ap (λ e. meant_at (ending_of e) c.run.new.state.state) (sym c.ended_by.ensures)
