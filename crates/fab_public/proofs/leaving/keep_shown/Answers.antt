use Rattle.std.proofs.Common.{rules}
use Rattle.std.proofs.lemmas.Fn.{filter_same}
use Rattle.fab_protocol.specs.Versions.{Row}
use Rattle.fab_release.specs.Replay.{is_shown}
use Rattle.fab_public.specs.Settings.{public_at, sight_at}
use Rattle.fab_public.proofs.leaving.keep_shown.Goals as goal

pub returns : goal.returns
returns c = filter_same _ (λ (row : Row). is_shown (sight_at c.args.setting.now) (public_at c.args.setting.now) row.0) _ (λ x b f' k. search rules) _ _ c.retain.ensures.filtered
