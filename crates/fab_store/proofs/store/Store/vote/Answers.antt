use Rattle.std.proofs.Common.{sym, Some, None, [], ◌++◌, map}
use Rattle.fab_protocol.specs.Stores.{creates_in, item_name, reads_in, reasons_in, writes_in}
use Rattle.fab_store.proofs.Reasons.{in_three}
use Rattle.fab_store.proofs.store.Store.vote.Goals as goal

pub returns-in-Some-creates_refusal : goal.returns-in-Some-creates_refusal
returns-in-Some-creates_refusal c =
    let store = c.args.self.now in
    let items = c.args.items.now in
    sym (in_three
    (reasons_in store.rights store.node c.args.sender c.args.tid store.shelf [] None (reads_in items))
    (reasons_in store.rights store.node c.args.sender c.args.tid store.shelf (map item_name (reads_in items)) None (writes_in items))
    (reasons_in store.rights store.node c.args.sender c.args.tid store.shelf (map item_name (reads_in items ++ writes_in items)) None (creates_in items))
    None None (Some c.in-Some-creates_refusal.refusal) c.in_default.ensures c.in_default-writes_refusal.ensures c.in-Some-creates_refusal.ensures)

pub returns-in-None : goal.returns-in-None
returns-in-None c =
    let store = c.args.self.now in
    let items = c.args.items.now in
    sym (in_three
    (reasons_in store.rights store.node c.args.sender c.args.tid store.shelf [] None (reads_in items))
    (reasons_in store.rights store.node c.args.sender c.args.tid store.shelf (map item_name (reads_in items)) None (writes_in items))
    (reasons_in store.rights store.node c.args.sender c.args.tid store.shelf (map item_name (reads_in items ++ writes_in items)) None (creates_in items))
    None None None c.in_default.ensures c.in_default-writes_refusal.ensures c.in-None.ensures)
