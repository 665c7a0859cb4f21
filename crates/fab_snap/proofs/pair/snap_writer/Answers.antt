use Rattle.std.proofs.Common.{ap, ◌∙◌}
use Rattle.std.specs.Prelude.{fold, ◌+◌}
use Rattle.fab_protocol.specs.Tables.{placed_all}
use Rattle.fab_protocol.specs.Versions.{name_of}
use Rattle.fab_snap.specs.Shown.{commits_in}
use Rattle.fab_snap.proofs.Rises.{opens}
use Rattle.fab_snap.proofs.pair.snap_writer.Goals as goal

pub publish_as-writer-requires : goal.publish_as-writer-requires
publish_as-writer-requires g c = λ next is.
    let x = c.in_ok-writer.writer.desk.shown.value in
    let e = is ∙ ap (λ l. fold (λ s k. (s.0 + 1, placed_all name_of k.commit.leaves s.1, k.all.value.items, s.3)) (x.count, x.rows.rows, commits_in x.last, x.start.value.rows) l) c.in_ok-writer.ensures.1 in
    opens c.in_ok-writer.writer.desk.place.id _ x next (ap (λ s. s.0) e) (ap (λ s. s.1) e) (ap (λ s. s.2) e) (ap (λ s. s.3) e)
