use Rattle.std.proofs.Common.{◌≡◌, IsOk, OnOk, Result, Ok, Err, ap, sym, ◌∙◌, is_some}
use Rattle.std.proofs.lemmas.Bool.{false≢true}
use Rattle.fab_protocol.specs.Tables.{placed}
use Rattle.fab_protocol.specs.Versions.{name_of, version_of, risen}
use Rattle.fab_protocol.proofs.VersionLaws.{version_of_row}
use Rattle.fab_versions.proofs.table.Table.replace.Goals as goal

-- the name is there
pub unreachable-requires : goal.unreachable-requires
unreachable-requires c = false≢true (ap is_some (sym c.in-None.ensures) ∙ c.requires.present)

where_ok : {T E : Type 0} (result : Result T E) (P : Type 0) → IsOk result → OnOk result P → P
where_ok (Ok x) P ok p = p
where_ok (Err e) P ok p = absurd (false≢true ok)

-- so it takes no memory, and the version that was found is that of the name
pub returns-clause-rows : goal.returns-clause-rows
returns-clause-rows c =
    let rows = c.args.self.now.rows in
    let version : version_of rows c.args.oid ≡ c.in-Some.version =
    version_of_row rows c.args.oid (c.args.oid, c.in-Some.version, c.in-Some.field-0-1.now) c.in-Some.ensures in
    where_ok c.put.result (c.put.new.self.rows ≡ placed name_of (c.args.oid, c.next_version.result, c.args.object) rows)
    (c.put.ensures.there c.requires.present) c.put.ensures.ok
    ∙ ap (λ v. placed name_of (c.args.oid, v, c.args.object) rows) (c.next_version.ensures ∙ ap risen (sym version))
