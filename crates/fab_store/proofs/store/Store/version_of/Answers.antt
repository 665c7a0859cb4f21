use Rattle.std.proofs.Common.{sym, ap, ◌∙◌}
use Rattle.fab_protocol.specs.Versions.{version_of}
use Rattle.fab_protocol.proofs.VersionLaws.{version_in, version_of_row, version_by_row}
use Rattle.fab_store.specs.Stock.{Stock}
use Rattle.fab_store.proofs.store.Store.version_of.Goals as goal

pub returns-in-Some : goal.returns-in-Some
returns-in-Some c =
    sym (version_of_row c.self.inside.table.rows c.args.oid (c.args.oid, c.in-Some.found.0, c.in-Some.found.1.now) c.in-Some.ensures)
    ∙ ap (λ (s : Stock). version_of s.shelf.rows c.args.oid) c.self.view_is

pub returns-in-None : goal.returns-in-None
returns-in-None c =
    sym (version_by_row c.self.inside.table.rows c.args.oid ∙ ap version_in c.in-None.ensures)
    ∙ ap (λ (s : Stock). version_of s.shelf.rows c.args.oid) c.self.view_is
