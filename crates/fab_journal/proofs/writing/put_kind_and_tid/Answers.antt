use Rattle.std.proofs.Common.{[], ◌∷◌}
use Rattle.fab_base.specs.FieldSpelling.{tid_bytes}
use Rattle.fab_wire.proofs.Pushes.{pushed}
use Rattle.fab_journal.proofs.writing.put_kind_and_tid.Goals as goal

pub returns-clause-bytes : goal.returns-clause-bytes
returns-clause-bytes c = pushed c.args.out.now (c.args.kind ∷ []) (tid_bytes c.args.tid) c.in_ok-put_u8.ensures c.in_ok-put_tid.ensures.bytes
