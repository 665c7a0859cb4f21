use Rattle.std.proofs.Common.{List, rules, sym, subst, ◌∙◌}
use Rattle.fab_release.specs.Replay.{StoreSeen}
use Rattle.fab_public.specs.Settings.{public_at, sight_at}
use Rattle.fab_public.specs.States.{AreStored, unstored}
use Rattle.fab_public.proofs.Standing.{one_more}
use Rattle.fab_public.proofs.Storing.{stands_first}
use Rattle.fab_public.proofs.stores.make_room.Goals as goal

pub loop-stores-preserved : goal.loop-stores-preserved
loop-stores-preserved c = λ k roots is.
    let sight = sight_at c.args.setting.now in
    let P = public_at c.args.setting.now in
    subst (λ (xs : List StoreSeen). AreStored sight P xs k) (sym c.in_ok-push.ensures.items)
    (one_more (unstored sight P) (λ x. x) (λ x. Unit {0}) c.loop-stores.stores.items k _
    (stands_first sight P _ _ _ _ c.in_ok-make.ensures (c.rows.ensures.all ∙ roots) (search rules))
    tt (c.loop-stores.invariant k roots is))
