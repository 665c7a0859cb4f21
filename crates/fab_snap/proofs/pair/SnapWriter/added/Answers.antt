use Rattle.std.proofs.Common.{sym, ap, ◌∙◌, subst, []}
use Rattle.std.specs.Prelude.{◌++◌, ◌∷◌, fold, ◌+◌}
use Rattle.fab_protocol.specs.Tables.{placed_all}
use Rattle.fab_protocol.specs.Versions.{name_of}
use Rattle.fab_snap.specs.Shown.{IsBehind, commits_in, commits_of}
use Rattle.fab_snap.proofs.Rises.{publishes, where_ok}
use Rattle.fab_snap.proofs.pair.SnapWriter.added.Goals as goal

pub publish_as-writer-requires : goal.publish_as-writer-requires
publish_as-writer-requires g c = λ next is.
    let x = c.append.new.self.desk.shown.value in
    let pending = where_ok c.append.result _ _ c.if-is_err.ensures.value c.append.ensures.pending ∙ ap (λ l. l ++ c.in-Ok.change ∷ []) (c.self.invariant.1 (ap (λ a. a.broken) c.self.view_is ∙ c.requires)) in
    let e = is ∙ ap (λ l. fold (λ s k. (s.0 + 1, placed_all name_of k.commit.leaves s.1, k.all.value.items, s.3)) (x.count, x.rows.rows, commits_in x.last, x.start.value.rows) l) pending in
    publishes c.append.new.self.desk.place.id _ x next c.self.inside.commits.items c.changed.new.commits.items c.args.commit.now
    (ap (λ d. commits_of d.shown.value) c.append.ensures.desk ∙ c.self.invariant.0.all)
    (subst (λ d. IsBehind d.shown.value) (sym c.append.ensures.desk) c.self.invariant.0.behind)
    c.in-Ok.ensures.ok.1
    (ap (λ s. s.0) e)
    (ap (λ s. s.1) e ∙ ap (λ k. placed_all name_of k.leaves x.rows.rows) c.in-Ok.ensures.ok.0)
    (ap (λ s. s.2) e ∙ c.in-Ok.ensures.ok.2)
    (ap (λ s. s.3) e)
