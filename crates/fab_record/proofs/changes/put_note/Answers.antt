use Rattle.std.proofs.Common.{sym, subst, List}
use Rattle.std.proofs.lemmas.Result.{on_ok_weaker}
use Rattle.fab_base.specs.declared.object.Object.{Object}
use Rattle.fab_base.specs.declared.object.Oid.{Oid}
use Rattle.fab_protocol.specs.Versions.{Row}
use Rattle.fab_net.specs.declared.note.Note.{Note}
use Rattle.fab_release.specs.Record.{changes_in}
use Rattle.fab_record.specs.Kept.{NotesMore, changes, is_shown_at}
use Rattle.fab_record.specs.Views.{sight_in}
use Rattle.std.specs.List.{list_any}
use Rattle.fab_record.proofs.Changing.{ended_put}
use Rattle.fab_record.proofs.changes.put_note.Goals as goal

pub returns-in_ok-put_writes-in-Ended : goal.returns-in_ok-put_writes-in-Ended
returns-in_ok-put_writes-in-Ended c =
    let sight = sight_in c.args.sights.now in
    on_ok_weaker c.put_creates.result
    (λ made. subst (λ (x : Note). NotesMore c.args.changed.now.keys c.put_creates.new.changed.keys (λ s t. list_any (is_shown_at sight s) (changes_in t x))) (sym c.in-Ended.is)
    (ended_put sight c.in-Ended.tid c.in-Ended.writes c.in-Ended.creates c.args.changed.now.keys c.put_writes.new.changed.keys c.put_creates.new.changed.keys
    (subst (λ (ws : List Row). NotesMore c.args.changed.now.keys c.put_writes.new.changed.keys (λ s t. list_any (λ (w : Row). changes sight c.in-Ended.tid s t w.0) ws))
    c.as_slice.ensures c.in_ok-put_writes-in-Ended.ensures)
    (subst (λ (cs : List (Oid × Object)). NotesMore c.put_writes.new.changed.keys c.put_creates.new.changed.keys (λ s t. list_any (λ (d : Oid × Object). changes sight c.in-Ended.tid s t d.0) cs))
    c.as_slice-in-Ended.ensures made)))
    c.put_creates.ensures
