use Rattle.std.proofs.Common.{rules}
use Rattle.std.proofs.lemmas.Fn.{filter_same}
use Rattle.fab_rights.specs.Computed.{has_bit}
use Rattle.fab_parts.proofs.asking.keep_in_set.Goals as goal

pub returns : goal.returns
returns c = filter_same _ (λ s. has_bit c.args.nodes s) _ (λ x b f' k. search rules) _ _ c.retain.ensures.filtered
