use Rattle.std.proofs.Common.{◌≡◌, ℕ, ◌<◌, ◌≤◌, List, length, Option, Some, None, Ok, true, false, refl, sym, ap, ◌∙◌, subst, arith}
use Rattle.std.specs.Prelude.{slice_get}
use Rattle.std.proofs.lemmas.Bool.Decides.{nat_tests}
use Rattle.std.proofs.lemmas.Option.{slice_get_past, slice_get_read}
use Rattle.fab_base.specs.declared.object.Value.{Value}
use Rattle.fab_rights.specs.Computed.{has_bit}
use Rattle.fab_tree.specs.declared.resolved.Method.{Method}
use Rattle.fab_language.specs.declared.ending.Ending.TheVariants.{Ended}
use Rattle.fab_language.specs.Meaning.{meant_at}
use Rattle.fab_erasure.specs.Erased.{locals_at_start}
use Rattle.fab_stack.specs.Points.{point_over, with_locals}
use Rattle.fab_meaning.specs.Jobs.{Job}
use Rattle.fab_meaning.proofs.Pausing.{begun_left, done_turns, none_meant, skipped_meant, turns_of}
use Rattle.fab_meaning.proofs.paused.begin.Goals as goal

pub returns-in_default : goal.returns-in_default
returns-in_default c =
    let job : Job = record { program = c.args.program.now; seen = c.args.seen.now; known = c.args.known; given = c.args.given.now; request = c.args.request.now; tid = c.args.tid; fuel = c.args.fuel } in
    let past : length c.as_slice.result.now ≤ c.from.result = grind (arith, nat_tests, c.in_default.ensures.lookup.0) in
    let none : slice_get job.program.methods job.request.method ≡ None =
    subst (λ (i : ℕ). slice_get job.program.methods i ≡ None) c.from.ensures (subst (λ (ms : List Method). slice_get ms c.from.result ≡ None) c.as_slice.ensures (slice_get_past c.as_slice.result.now c.from.result past)) in
    done_turns job (Ok None) c.in_ok-state.state c.done.result tt (none_meant job c.in_ok-state.state none c.in_ok-state.ensures) c.done.ensures

pub returns-then-not-sees : goal.returns-then-not-sees
returns-then-not-sees c =
    let job : Job = record { program = c.args.program.now; seen = c.args.seen.now; known = c.args.known; given = c.args.given.now; request = c.args.request.now; tid = c.args.tid; fuel = c.args.fuel } in
    let first : Method = c.in-Some.first.now in
    let inside : c.from.result < length c.as_slice.result.now = grind (arith, nat_tests, c.in-Some.ensures.lookup.0) in
    let there : slice_get c.as_slice.result.now c.from.result ≡ Some first =
    slice_get_read c.as_slice.result.now (length c.as_slice.result.now) c.from.result first refl inside c.in-Some.ensures.lookup.1 in
    let is : slice_get job.program.methods job.request.method ≡ Some first =
    subst (λ (i : ℕ). slice_get job.program.methods i ≡ Some first) c.from.ensures (subst (λ (ms : List Method). slice_get ms c.from.result ≡ Some first) c.as_slice.ensures there) in
    let unseen : has_bit job.seen.labels first.begin.number ≡ false = sym c.sees.ensures ∙ c.if-not-sees.true in
    done_turns job (Ok c.blank_result.result) c.in_ok-state.state c.done-then-not-sees.result tt
    (skipped_meant job first c.in_ok-state.state is unseen c.in_ok-state.ensures ∙ ap (λ (v : Option Value). meant_at (Ended v) c.in_ok-state.state.state) (sym c.blank_result.ensures))
    c.done-then-not-sees.ensures

pub returns : goal.returns
returns c =
    let job : Job = record { program = c.args.program.now; seen = c.args.seen.now; known = c.args.known; given = c.args.given.now; request = c.args.request.now; tid = c.args.tid; fuel = c.args.fuel } in
    let sees = has_bit job.seen.labels in
    let shows = has_bit job.seen.classes in
    let first : Method = c.in-Some.first.now in
    let inside : c.from.result < length c.as_slice.result.now = grind (arith, nat_tests, c.in-Some.ensures.lookup.0) in
    let there : slice_get c.as_slice.result.now c.from.result ≡ Some first =
    slice_get_read c.as_slice.result.now (length c.as_slice.result.now) c.from.result first refl inside c.in-Some.ensures.lookup.1 in
    let is : slice_get job.program.methods job.request.method ≡ Some first =
    subst (λ (i : ℕ). slice_get job.program.methods i ≡ Some first) c.from.ensures (subst (λ (ms : List Method). slice_get ms c.from.result ≡ Some first) c.as_slice.ensures there) in
    let seen : sees first.begin.number ≡ true = sym c.sees.ensures ∙ c.if-not-sees.false in
    turns_of job c.args.program.now c.args.seen.now first c.in_ok-stack.stack.items c.begun.new.state c.going.result refl refl
    (begun_left job first c.in_ok-stack.stack.items c.begun.new.state is seen c.rows.ensures.ascending
    (c.in_ok-stack.ensures.locals ∙ ap (with_locals c.in_ok-locals.locals.items) c.in_ok-state.ensures
    ∙ ap (λ (l : List Value). with_locals l (point_over job.tid job.fuel job.known job.given)) (c.in_ok-locals.ensures ∙ ap (locals_at_start sees shows first) c.as_slice-2.ensures))
    c.in_ok-stack.ensures.entries c.in_ok-stack.ensures.matched)
    c.going.ensures
