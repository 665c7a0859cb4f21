use Rattle.std.proofs.lemmas.Result.{on_ok_weaker}
use Rattle.fab_release.specs.Replay.{applies}
use Rattle.fab_public.specs.Settings.{public_at, sight_at}
use Rattle.fab_public.specs.States.{unstored}
use Rattle.fab_public.proofs.Standing.{changed_at}
use Rattle.fab_public.proofs.stores.apply.Goals as goal

pub returns : goal.returns
returns c =
    let sight = sight_at c.args.setting.now in
    let P = public_at c.args.setting.now in
    on_ok_weaker c.apply.result
    (λ h k roots is. changed_at (unstored sight P) (λ x. x) (λ x. Unit {0}) c.make_room.new.stores.items k c.args.store c.from.result c.index_mut.result.now c.apply.new.self
    (applies sight P c.args.rows) (c.in_ok-make_room.ensures.kept k roots is) c.in_ok-make_room.ensures.made c.from.ensures c.index_mut.ensures.value
    (λ fits. h sight P) (λ fits. tt))
    c.apply.ensures
