use Rattle.std.proofs.Common.{◌++◌, ◌∷◌, [], arith}
use Rattle.fab_reports.proofs.Given.{shared_le}
use Rattle.fab_evidence.proofs.journals.node_of.Goals as goal

pub is_whole-requires : goal.is_whole-requires
is_whole-requires c = let most = shared_le (c.as_bytes-name.result.now ++ 32 ∷ []) c.args.bytes.now in omega (arith, c.shared_name-shared.ensures.count)
