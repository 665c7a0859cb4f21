use Rattle.std.proofs.Common.{ap, refl, ◌∙◌}
use Rattle.fab_release.specs.Replay.{StoreSeen, store_applies, store_hears, store_says}
use Rattle.fab_sent.specs.Messages.{all_spelled}
use Rattle.fab_public.specs.Settings.{public_at, sight_at}
use Rattle.fab_public.specs.States.{unstored}
use Rattle.fab_public.proofs.Standing.{changed_at, seen_at}
use Rattle.fab_public.proofs.stores.deliver.Goals as goal

pub returns-clause-kept : goal.returns-clause-kept
returns-clause-kept c = λ k roots is.
    let sight = sight_at c.args.setting.now in
    let P = public_at c.args.setting.now in
    changed_at (unstored sight P) (λ x. x) (λ x. Unit {0}) c.make_room.new.stores.items k c.args.store c.from.result c.index_mut-stored.result.now c.hear.new.self
    (store_hears sight P c.args.store c.args.sender c.args.message) (c.in_ok-make_room.ensures.kept k roots is) c.in_ok-make_room.ensures.made c.from.ensures c.index_mut-stored.ensures.value
    (λ fits. c.in_ok-hear.ensures sight P refl) (λ fits. tt)

pub returns-clause-sent : goal.returns-clause-sent
returns-clause-sent c = λ k roots is.
    let sight = sight_at c.args.setting.now in
    let P = public_at c.args.setting.now in
    c.in_ok-told.ensures.sent
    ∙ ap (λ (x : StoreSeen). all_spelled (store_says sight P c.args.store c.args.sender c.args.message x))
    (seen_at (unstored sight P) (λ x. x) (λ x. Unit {0}) c.make_room.new.stores.items k c.args.store c.from.result c.index_mut-stored.result.now
    (c.in_ok-make_room.ensures.kept k roots is) c.in_ok-make_room.ensures.made c.from.ensures c.index_mut-stored.ensures.value)

pub returns-clause-left : goal.returns-clause-left
returns-clause-left c = λ k roots is.
    let sight = sight_at c.args.setting.now in
    let P = public_at c.args.setting.now in
    c.in_ok-told.ensures.left
    ∙ ap (λ (x : StoreSeen). store_applies sight P c.args.store c.args.sender c.args.message x)
    (seen_at (unstored sight P) (λ x. x) (λ x. Unit {0}) c.make_room.new.stores.items k c.args.store c.from.result c.index_mut-stored.result.now
    (c.in_ok-make_room.ensures.kept k roots is) c.in_ok-make_room.ensures.made c.from.ensures c.index_mut-stored.ensures.value)
