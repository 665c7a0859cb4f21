use Rattle.std.proofs.Common.{Bool, if◌then◌else◌, suc, sym, ap, subst, ◌∙◌}
use Rattle.std.proofs.lemmas.Result.{on_ok_weaker}
use Rattle.fab_protocol.specs.Stores.{asks}
use Rattle.fab_release.specs.Replay.{WorkerSeen, at_worker, wakes}
use Rattle.fab_sent.specs.Messages.{all_spelled}
use Rattle.fab_public.specs.Settings.{public_at, sight_at}
use Rattle.fab_public.specs.States.{IsKept}
use Rattle.fab_public.proofs.Outcomes.{if_ok_weaker}
use Rattle.fab_public.proofs.steps.recover.Goals as goal

pub returns-else-is_worker-clause-kept : goal.returns-else-is_worker-clause-kept
returns-else-is_worker-clause-kept c =
    let sight = sight_at c.args.setting.now in
    let P = public_at c.args.setting.now in
    on_ok_weaker c.wake.result
    (λ h k is. subst (λ (b : Bool). IsKept sight P (record c.args.kept.now { stores = c.wake.new.stores }) (if b then at_worker sight P k c.args.node (λ (v : WorkerSeen). record v { boot = suc v.boot; number = 0 }) else k))
    (sym (sym c.is_worker.ensures.computed ∙ c.if-is_worker.false))
    (record { roots = is.roots; workers = is.workers; stores = h k.store is.roots is.stores; table = is.table }))
    c.wake.ensures.kept

pub returns-else-is_worker-clause-sent : goal.returns-else-is_worker-clause-sent
returns-else-is_worker-clause-sent c =
    let sight = sight_at c.args.setting.now in
    let P = public_at c.args.setting.now in
    if_ok_weaker c.wake.result
    (λ sent h k is. h k.store is.roots is.stores
    ∙ ap (λ (b : Bool). all_spelled (if b then wakes sight P (k.worker c.args.node) else (asks (k.store c.args.node).shelf).sends)) (sym (sym c.is_worker.ensures.computed ∙ c.if-is_worker.false)))
    c.wake.ensures.sent

pub returns-then-is_worker-clause-kept : goal.returns-then-is_worker-clause-kept
returns-then-is_worker-clause-kept c =
    let sight = sight_at c.args.setting.now in
    let P = public_at c.args.setting.now in
    on_ok_weaker c.change_worker.result
    (λ h k is. subst (λ (b : Bool). IsKept sight P c.change_worker.new.kept (if b then at_worker sight P k c.args.node (λ (v : WorkerSeen). record v { boot = suc v.boot; number = 0 }) else k))
    (sym (sym c.is_worker.ensures.computed ∙ c.if-is_worker.true)) (h k is))
    c.change_worker.ensures.kept

pub returns-then-is_worker-clause-sent : goal.returns-then-is_worker-clause-sent
returns-then-is_worker-clause-sent c =
    let sight = sight_at c.args.setting.now in
    let P = public_at c.args.setting.now in
    if_ok_weaker c.change_worker.result
    (λ sent h k is. h k is
    ∙ ap (λ (b : Bool). all_spelled (if b then wakes sight P (k.worker c.args.node) else (asks (k.store c.args.node).shelf).sends)) (sym (sym c.is_worker.ensures.computed ∙ c.if-is_worker.true)))
    c.change_worker.ensures.sent
