use Rattle.std.proofs.Common.{◌≡◌, Option, Some, None, sym, ap, subst, ◌∙◌}
use Rattle.std.proofs.lemmas.Result.{on_ok_weaker}
use Rattle.fab_base.specs.declared.object.Oid.{Oid}
use Rattle.fab_release.specs.Replay.{WorkerSeen, got_by, knows, row_at, run}
use Rattle.fab_known.specs.Knowing.{Lacks}
use Rattle.fab_public.specs.Settings.{public_at, sight_at}
use Rattle.fab_public.specs.States.{worker_of}
use Rattle.fab_public.proofs.Asking.{got_inside, got_none, got_outside}
use Rattle.fab_public.proofs.states.Watched.get.Goals as goal

pub returns-then-is_in-clause-seen : goal.returns-then-is_in-clause-seen
returns-then-is_in-clause-seen c = λ by.
    let sight = sight_at c.args.setting.now in
    let P = public_at c.args.setting.now in
    let n = c.args.worker in
    let v = worker_of c.args.self.now in
    let e = (run sight P n v).ending in
    let l : Lacks (Some c.in-Some.oid) e = subst (λ (o : Option Oid). Lacks o e) c.in-Some.is (c.in_ok-oid.ensures.lacks sight P by) in
    ap worker_of c.in_ok-oid.ensures.same ∙ got_inside sight P n e v c.args.table.now c.args.version c.in-Some.oid l (sym c.is_in.ensures.computed ∙ c.if-is_in.true)

pub returns-else-is_in-clause-seen : goal.returns-else-is_in-clause-seen
returns-else-is_in-clause-seen c = λ by.
    let sight = sight_at c.args.setting.now in
    let P = public_at c.args.setting.now in
    let n = c.args.worker in
    let v = worker_of c.args.self.now in
    let e = (run sight P n v).ending in
    let l : Lacks (Some c.in-Some.oid) e = subst (λ (o : Option Oid). Lacks o e) c.in-Some.is (c.in_ok-oid.ensures.lacks sight P by) in
    on_ok_weaker {Q = worker_of c.learn.new.self ≡ got_by sight P c.args.table.now c.args.version e v} c.learn.result
    (λ h. h ∙ ap (λ (x : WorkerSeen). knows sight P (row_at c.args.table.now c.in-Some.oid c.args.version) x) (ap worker_of c.in_ok-oid.ensures.same)
    ∙ got_outside sight P n e v c.args.table.now c.args.version c.in-Some.oid l (sym c.is_in.ensures.computed ∙ c.if-is_in.false))
    c.learn.ensures.seen

pub returns-in-None-clause-seen : goal.returns-in-None-clause-seen
returns-in-None-clause-seen c = λ by.
    let sight = sight_at c.args.setting.now in
    let P = public_at c.args.setting.now in
    let n = c.args.worker in
    let v = worker_of c.args.self.now in
    let e = (run sight P n v).ending in
    let l : Lacks None e = subst (λ (o : Option Oid). Lacks o e) c.in-None.is (c.in_ok-oid.ensures.lacks sight P by) in
    ap worker_of c.in_ok-oid.ensures.same ∙ got_none sight P n c.args.table.now c.args.version e v l
