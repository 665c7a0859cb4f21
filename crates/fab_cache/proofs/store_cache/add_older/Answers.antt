use Rattle.std.proofs.Common.{◌∙◌, refl, sym, ap}
use Rattle.fab_protocol.specs.Caches.{with_older}
use Rattle.fab_cache.specs.Caching.{rows_in}
use Rattle.fab_cache.proofs.Putting.{no_room_for, room_for}
use Rattle.fab_cache.proofs.store_cache.add_older.Goals as goal

pub returns-then-not-has_room : goal.returns-then-not-has_room
returns-then-not-has_room c =
    no_room_for c.args.k c.args.oid (c.args.oid, c.args.version, c.args.object.now) c.args.entries.now.entries refl (sym c.if-not-has_room.ensures)

pub returns : goal.returns
returns c =
    room_for c.args.k c.args.oid (c.args.version, c.in_ok-copy.field-0) c.args.entries.now.entries c.insert.new.self.entries (sym c.if-not-has_room.ensures)
    c.in_ok-insert.ensures.entries
    ∙ ap (λ object. with_older c.args.k (c.args.oid, c.args.version, object) (rows_in c.args.entries.now.entries)) c.in_ok-copy.ensures
