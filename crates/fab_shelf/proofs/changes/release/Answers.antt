use Rattle.std.proofs.Common.{rules, not}
use Rattle.std.proofs.lemmas.Fn.{filter_same}
use Rattle.fab_protocol.specs.Versions.{is_tid}
use Rattle.fab_shelf.proofs.changes.release.Goals as goal

-- those of other tids stay
pub returns : goal.returns
returns c = filter_same _ (λ p. not (is_tid p.0 c.args.tid)) _ (λ x b f' k. search rules) _ _ c.retain.ensures.filtered
