use Rattle.std.proofs.Common.{ap, sym, ◌∙◌, is_some}
use Rattle.fab_protocol.specs.Tables.{row_of, placed}
use Rattle.fab_protocol.specs.Versions.{Row, name_of}
use Rattle.fab_versions.specs.Holdings.{rows_of}
use Rattle.fab_versions.proofs.Whole.{not_there, goes_beside, goes_in_blocks}
use Rattle.fab_versions.proofs.table.Table.put_among_many.Goals as goal

-- over the row beside the blocks
pub returns-then-has-clause-ok : goal.returns-then-has-clause-ok
returns-then-has-clause-ok c =
    let row : Row = (c.args.oid, c.args.version, c.args.object) in
    goes_beside c.self.inside.blocks c.self.inside.beside.rows c.has.ensures.ascending c.walk_in_order.ensures row _ c.in_ok-put.ensures.ok
    ∙ ap (λ h. placed name_of row h.rows) c.self.view_is

-- into the blocks
pub returns-in-Ok-clause-ok : goal.returns-in-Ok-clause-ok
returns-in-Ok-clause-ok c =
    let row : Row = (c.args.oid, c.args.version, c.args.object) in
    goes_in_blocks c.self.inside.blocks c.self.inside.beside.rows c.has.ensures.ascending c.walk_in_order.ensures row _
    (sym c.has.ensures.has ∙ c.if-has.false) c.in-Ok.ensures.ok
    ∙ ap (λ h. placed name_of row h.rows) c.self.view_is

-- or beside it, where there is no memory
pub returns-in_ok-put-in-Err-clause-ok : goal.returns-in_ok-put-in-Err-clause-ok
returns-in_ok-put-in-Err-clause-ok c =
    let row : Row = (c.args.oid, c.args.version, c.args.object) in
    ap (λ leaves. rows_of leaves c.put-in-Err.new.self.rows) c.in-Err.ensures.err
    ∙ goes_beside c.self.inside.blocks c.self.inside.beside.rows c.has.ensures.ascending c.walk_in_order.ensures row _
    (c.in_ok-put-in-Err.ensures.ok ∙ ap (λ x. placed name_of (c.args.oid, c.args.version, x) c.self.inside.beside.rows) c.in-Err.ensures.back)
    ∙ ap (λ h. placed name_of row h.rows) c.self.view_is

pub returns-in_ok-put-in-Err-clause-same_room : goal.returns-in_ok-put-in-Err-clause-same_room
returns-in_ok-put-in-Err-clause-same_room c =
    λ there. absurd (not_there c.self.inside.blocks c.self.inside.beside.rows c.has.ensures.ascending c.args.oid
    (sym c.has.ensures.has ∙ c.if-has.false) c.in-Err.ensures.absent
    (ap (λ h. is_some (row_of name_of h.rows c.args.oid)) c.self.view_is ∙ there))

pub returns-in_err-put-in-Err-clause-there : goal.returns-in_err-put-in-Err-clause-there
returns-in_err-put-in-Err-clause-there c =
    λ there. absurd (not_there c.self.inside.blocks c.self.inside.beside.rows c.has.ensures.ascending c.args.oid
    (sym c.has.ensures.has ∙ c.if-has.false) c.in-Err.ensures.absent
    (ap (λ h. is_some (row_of name_of h.rows c.args.oid)) c.self.view_is ∙ there))
