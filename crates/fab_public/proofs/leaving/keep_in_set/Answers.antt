use Rattle.std.proofs.Common.{rules}
use Rattle.std.proofs.lemmas.Fn.{filter_same}
use Rattle.fab_protocol.specs.Versions.{Row}
use Rattle.fab_rights.specs.Computed.{has_bit}
use Rattle.fab_public.proofs.leaving.keep_in_set.Goals as goal

pub returns : goal.returns
returns c = filter_same _ (λ (row : Row). has_bit c.args.nodes row.0.store) _ (λ x b f' k. search rules) _ _ c.retain.ensures.filtered
