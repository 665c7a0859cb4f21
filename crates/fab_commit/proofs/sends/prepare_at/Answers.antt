use Rattle.std.proofs.Common.{sym, subst}
use Rattle.fab_base.specs.FieldSpelling.{KeepsItems}
use Rattle.fab_commit.proofs.Counts.{items_keep}
use Rattle.fab_commit.proofs.sends.prepare_at.Goals as goal

-- the items are the store's
pub encode-requires : goal.encode-requires
encode-requires c = subst KeepsItems (sym c.in_ok-items.ensures) (items_keep c.args.parts.now c.args.store c.requires)
