use Rattle.std.proofs.Common.{◌≡◌, ap, refl}
use Rattle.std.specs.List.{insert}
use Rattle.fab_versions.specs.Blocked.{rows_in, InBlocks}
use Rattle.fab_versions.proofs.Standing.{either_way, least, opened_rows, opened_order}
use Rattle.fab_versions.proofs.blocks.open.Goals as goal

pub returns-clause-rows : goal.returns-clause-rows
returns-clause-rows c =
    let old = c.args.blocks.now.items in
    let more = insert old 0 (least, c.new.result) in
    either_way c.insert.result (λ l. rows_in l ≡ rows_in old) c.insert.new.self.items more old c.insert.ensures.items
    (opened_rows c.args.oid c.new.result (ap (λ h. h.rows) c.new.ensures) old c.requires.in_order c.requires.behind more refl) refl

pub returns-clause-in_order : goal.returns-clause-in_order
returns-clause-in_order c =
    let old = c.args.blocks.now.items in
    let more = insert old 0 (least, c.new.result) in
    either_way c.insert.result InBlocks c.insert.new.self.items more old c.insert.ensures.items
    (opened_order c.args.oid c.new.result (ap (λ h. h.rows) c.new.ensures) old c.requires.in_order c.requires.behind more refl) c.requires.in_order
