use Rattle.std.proofs.Common.{sym, ap, subst, ◌∙◌}
use Rattle.std.specs.List.{IsDistinct, filter}
use Rattle.std.specs.Map.{keys_of}
use Rattle.fab_base.specs.declared.object.Object.{Object}
use Rattle.fab_base.specs.declared.object.Oid.{Oid}
use Rattle.fab_base.specs.FlatMap.{FlatMap, is_same, map_of}
use Rattle.fab_integrity.proofs.Maps.{ascends_filter}
use Rattle.fab_map.proofs.Made.{distinct_from_ascends, map_of_own}
use Rattle.fab_release.specs.Replay.{is_shown}
use Rattle.fab_public.specs.Settings.{public_at, sight_at}
use Rattle.fab_public.proofs.start.shown_roots.Goals as goal

pub from_rows-requires : goal.from_rows-requires
from_rows-requires c =
    let shown = λ (root : Oid × Object). is_shown (sight_at c.args.setting.now) (public_at c.args.setting.now) root.0 in
    let all = c.in_ok-all.all in
    subst (λ (rows : FlatMap). IsDistinct is_same (keys_of rows)) (sym (c.keep_shown.ensures ∙ ap (filter shown) c.into_rows-rows.ensures.all))
    (distinct_from_ascends (filter shown all) (ascends_filter shown all c.into_rows-rows.ensures.ascending))

pub returns : goal.returns
returns c =
    let shown = λ (root : Oid × Object). is_shown (sight_at c.args.setting.now) (public_at c.args.setting.now) root.0 in
    let all = c.in_ok-all.all in
    c.from_rows.ensures
    ∙ ap map_of (c.keep_shown.ensures ∙ ap (filter shown) c.into_rows-rows.ensures.all)
    ∙ map_of_own (filter shown all) (ascends_filter shown all c.into_rows-rows.ensures.ascending)
    ∙ ap (filter shown) c.in_ok-all.ensures.exact
