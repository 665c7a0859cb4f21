use Rattle.std.proofs.Common.{◌≡◌, ℕ, List, Option, Some, None, sym, ap, subst, ◌∙◌}
use Rattle.std.proofs.lemmas.Result.{on_ok_weaker}
use Rattle.fab_base.specs.declared.object.Oid.{Oid}
use Rattle.fab_release.specs.Replay.{WorkerSeen, asked_by, asks_by, fetch, run}
use Rattle.fab_protocol.specs.Caches.{cached_row}
use Rattle.fab_sent.specs.Messages.{all_spelled}
use Rattle.fab_public.specs.declared.states.Watched.{Watched}
use Rattle.fab_known.specs.Knowing.{Lacks}
use Rattle.fab_public.specs.Settings.{public_at, sight_at}
use Rattle.fab_public.specs.States.{worker_of}
use Rattle.fab_public.proofs.Asking.{asks_inside, asks_none, asks_outside, fetch_inside, fetch_none, fetch_outside, fetched}
use Rattle.fab_public.proofs.Outcomes.{if_ok_weaker}
use Rattle.fab_public.proofs.states.Watched.ask.Goals as goal

pub returns-then-is_in-clause-kept : goal.returns-then-is_in-clause-kept
returns-then-is_in-clause-kept c = λ by.
    let sight = sight_at c.args.setting.now in
    let P = public_at c.args.setting.now in
    let n = c.args.worker in
    let w : Watched = c.args.self.now in
    let v = worker_of w in
    let e = (run sight P n v).ending in
    let l : Lacks (Some c.in-Some.oid) e = subst (λ (o : Option Oid). Lacks o e) c.in-Some.is (c.in_ok-oid.ensures.lacks sight P by) in
    let same : worker_of c.lacks.new.self ≡ v = ap worker_of c.in_ok-oid.ensures.same in
    on_ok_weaker {Q = worker_of c.ask_for.new.self ≡ asks_by sight P e v} c.ask_for.result
    (λ h. h ∙ ap (λ (x : WorkerSeen). asked_by sight P c.in-Some.oid (cached_row x.caches c.in-Some.oid) x) same
    ∙ asks_inside sight P n e v c.in-Some.oid l (sym c.is_in.ensures.computed ∙ c.if-is_in.true))
    c.ask_for.ensures.kept

pub returns-then-is_in-clause-sent : goal.returns-then-is_in-clause-sent
returns-then-is_in-clause-sent c = λ by.
    let sight = sight_at c.args.setting.now in
    let P = public_at c.args.setting.now in
    let n = c.args.worker in
    let w : Watched = c.args.self.now in
    let v = worker_of w in
    let e = (run sight P n v).ending in
    let l : Lacks (Some c.in-Some.oid) e = subst (λ (o : Option Oid). Lacks o e) c.in-Some.is (c.in_ok-oid.ensures.lacks sight P by) in
    let same : worker_of c.lacks.new.self ≡ v = ap worker_of c.in_ok-oid.ensures.same in
    if_ok_weaker {Q = λ (sent : List (ℕ × List ℕ)). sent ≡ all_spelled (fetch sight P n e v)} c.ask_for.result
    (λ sent h. h ∙ ap (λ (x : WorkerSeen). all_spelled (fetched sight P n e x c.in-Some.oid)) same
    ∙ ap all_spelled (fetch_inside sight P n e v c.in-Some.oid l (sym c.is_in.ensures.computed ∙ c.if-is_in.true)))
    c.ask_for.ensures.sent

pub returns-else-is_in-clause-kept : goal.returns-else-is_in-clause-kept
returns-else-is_in-clause-kept c = λ by.
    let sight = sight_at c.args.setting.now in
    let P = public_at c.args.setting.now in
    let n = c.args.worker in
    let v = worker_of c.args.self.now in
    let e = (run sight P n v).ending in
    let l : Lacks (Some c.in-Some.oid) e = subst (λ (o : Option Oid). Lacks o e) c.in-Some.is (c.in_ok-oid.ensures.lacks sight P by) in
    ap worker_of c.in_ok-oid.ensures.same ∙ asks_outside sight P n e v c.in-Some.oid l (sym c.is_in.ensures.computed ∙ c.if-is_in.false)

pub returns-else-is_in-clause-sent : goal.returns-else-is_in-clause-sent
returns-else-is_in-clause-sent c = λ by.
    let sight = sight_at c.args.setting.now in
    let P = public_at c.args.setting.now in
    let n = c.args.worker in
    let v = worker_of c.args.self.now in
    let e = (run sight P n v).ending in
    let l : Lacks (Some c.in-Some.oid) e = subst (λ (o : Option Oid). Lacks o e) c.in-Some.is (c.in_ok-oid.ensures.lacks sight P by) in
    c.new.ensures ∙ ap all_spelled (fetch_outside sight P n e v c.in-Some.oid l (sym c.is_in.ensures.computed ∙ c.if-is_in.false))

pub returns-in-None-clause-kept : goal.returns-in-None-clause-kept
returns-in-None-clause-kept c = λ by.
    let sight = sight_at c.args.setting.now in
    let P = public_at c.args.setting.now in
    let n = c.args.worker in
    let v = worker_of c.args.self.now in
    let e = (run sight P n v).ending in
    let l : Lacks None e = subst (λ (o : Option Oid). Lacks o e) c.in-None.is (c.in_ok-oid.ensures.lacks sight P by) in
    ap worker_of c.in_ok-oid.ensures.same ∙ asks_none sight P n e v l

pub returns-in-None-clause-sent : goal.returns-in-None-clause-sent
returns-in-None-clause-sent c = λ by.
    let sight = sight_at c.args.setting.now in
    let P = public_at c.args.setting.now in
    let n = c.args.worker in
    let v = worker_of c.args.self.now in
    let e = (run sight P n v).ending in
    let l : Lacks None e = subst (λ (o : Option Oid). Lacks o e) c.in-None.is (c.in_ok-oid.ensures.lacks sight P by) in
    c.new-in-None.ensures ∙ ap all_spelled (fetch_none sight P n e v l)
