use Rattle.std.proofs.Common.{◌≤◌, is_some, subst, ap, ◌∙◌}
use Rattle.std.proofs.lemmas.Bool.{false≢true}
use Rattle.fab_protocol.specs.Tables.{row_of, placed}
use Rattle.fab_protocol.specs.Versions.{Row, name_of}
use Rattle.fab_versions.proofs.Whole.{put_alone, there_alone}
use Rattle.fab_versions.proofs.table.Table.put.Goals as goal

-- into the list, where it stands alone
pub returns-then-len-lt-FEW-clause-ok : goal.returns-then-len-lt-FEW-clause-ok
returns-then-len-lt-FEW-clause-ok c =
    let row : Row = (c.args.oid, c.args.version, c.args.object) in
    put_alone c.self.inside.blocks c.self.inside.beside.rows c.len.ensures.ascending (c.has_no_block.ensures c.if-has_no_block.true) c.put.new.self.rows row c.in_ok-put.ensures.ok
    ∙ ap (λ h. placed name_of row h.rows) c.self.view_is

-- a name that is there is in the list
pub returns-in_err-put-clause-there : goal.returns-in_err-put-clause-there
returns-in_err-put-clause-there c =
    λ there. absurd (false≢true (c.in_err-put.ensures.there
    (there_alone c.self.inside.blocks c.self.inside.beside.rows c.len.ensures.ascending (c.has_no_block.ensures c.if-has_no_block.true) c.args.oid
    (ap (λ h. is_some (row_of name_of h.rows c.args.oid)) c.self.view_is ∙ there))))

pub returns-then-len-lt-FEW-clause-same_room : goal.returns-then-len-lt-FEW-clause-same_room
returns-then-len-lt-FEW-clause-same_room c =
    λ there. subst (λ h. h.spare ≤ c.put.new.self.spare) c.self.view_is
    (c.in_ok-put.ensures.same_room
    (there_alone c.self.inside.blocks c.self.inside.beside.rows c.len.ensures.ascending (c.has_no_block.ensures c.if-has_no_block.true) c.args.oid
    (ap (λ h. is_some (row_of name_of h.rows c.args.oid)) c.self.view_is ∙ there)))
