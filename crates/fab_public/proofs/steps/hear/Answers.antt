use Rattle.std.proofs.Common.{Bool, if◌then◌else◌, sym, ap, subst, ◌++◌, ◌∙◌}
use Rattle.std.proofs.lemmas.Result.{on_ok_weaker}
use Rattle.fab_protocol.specs.Versions.{Rows}
use Rattle.fab_release.specs.Replay.{at_store, at_worker, row_at, store_applies, store_hears, store_says, tabled, worker_hears, worker_says}
use Rattle.fab_sent.specs.Messages.{all_spelled}
use Rattle.fab_public.specs.Settings.{public_at, sight_at}
use Rattle.fab_public.specs.States.{IsKept}
use Rattle.fab_public.proofs.Outcomes.{if_ok_weaker}
use Rattle.fab_known.proofs.Tabling.{alike_behind}
use Rattle.fab_public.proofs.steps.hear.Goals as goal

pub returns-clause-kept : goal.returns-clause-kept
returns-clause-kept c = λ k is.
    let sight = sight_at c.args.setting.now in
    let P = public_at c.args.setting.now in
    let n = c.args.node in
    let d = c.args.sender in
    let message = c.args.message in
    subst (λ (b : Bool). IsKept sight P (record c.args.kept.now { stores = c.deliver.new.stores; table = c.put_all.new.self }) (if b then at_worker sight P k n (worker_hears sight P n d message)
    else tabled sight P (store_applies sight P n d message (k.store n)) (at_store sight P k n (store_hears sight P n d message))))
    (sym (sym c.is_worker.ensures.computed ∙ c.if-is_worker.false))
    (record {
      roots = is.roots;
      workers = is.workers;
      stores = c.in_ok-told.ensures.kept k.store is.roots is.stores;
      table = λ o version.
          c.in_ok-put_all.ensures o version
          ∙ ap (λ (rows : Rows). row_at (rows ++ c.args.kept.now.table) o version) (c.in_ok-told.ensures.left k.store is.roots is.stores)
          ∙ alike_behind (store_applies sight P n d message (k.store n)) c.args.kept.now.table k.table is.table o version;
    })

pub returns-then-is_worker-clause-kept : goal.returns-then-is_worker-clause-kept
returns-then-is_worker-clause-kept c =
    let sight = sight_at c.args.setting.now in
    let P = public_at c.args.setting.now in
    let n = c.args.node in
    let d = c.args.sender in
    let message = c.args.message in
    on_ok_weaker c.hear.result
    (λ h k is. subst (λ (b : Bool). IsKept sight P (record c.args.kept.now { workers = c.hear.new.workers }) (if b then at_worker sight P k n (worker_hears sight P n d message)
    else tabled sight P (store_applies sight P n d message (k.store n)) (at_store sight P k n (store_hears sight P n d message))))
    (sym (sym c.is_worker.ensures.computed ∙ c.if-is_worker.true))
    (record { roots = is.roots; workers = h k.worker is.workers; stores = is.stores; table = is.table }))
    c.hear.ensures.kept

pub returns-then-is_worker-clause-sent : goal.returns-then-is_worker-clause-sent
returns-then-is_worker-clause-sent c =
    let sight = sight_at c.args.setting.now in
    let P = public_at c.args.setting.now in
    let n = c.args.node in
    let d = c.args.sender in
    let message = c.args.message in
    if_ok_weaker c.hear.result
    (λ sent h k is. h k.worker is.workers
    ∙ ap (λ (b : Bool). all_spelled (if b then worker_says sight P n d message (k.worker n) else store_says sight P n d message (k.store n))) (sym (sym c.is_worker.ensures.computed ∙ c.if-is_worker.true)))
    c.hear.ensures.sent
