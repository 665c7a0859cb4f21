use Rattle.std.proofs.Common.{◌≡◌, IfOk, Option, Some, sym, ap, ◌∙◌, subst}
use Rattle.std.specs.Option.{option_copied}
use Rattle.fab_base.specs.FlatMap.{FlatMap, map_of}
use Rattle.fab_erasure.specs.Erased.{erased}
use Rattle.fab_language.specs.Meaning.{Meant}
use Rattle.fab_meaning.specs.Ends.{IsMeant}
use Rattle.fab_protocol.specs.Versions.{objects_of}
use Rattle.fab_release.specs.Bundles.{erased_of}
use Rattle.fab_rights.specs.Computed.{has_bit}
use Rattle.fab_settings.specs.Settings.{request_at}
use Rattle.fab_tree.specs.declared.resolved.Request.{Request}
use Rattle.fab_known.proofs.run.run.Goals as goal

pub returns-in-Some : goal.returns-in-Some
returns-in-Some c =
    let part = c.args.part.now in
    let sees = has_bit c.args.seen.labels in
    let shows = has_bit c.args.seen.classes in
    let q = c.in-Some.request.now in
    let asked : request_at part c.args.tid.worker c.args.number ≡ Some q = sym c.request_at.ensures.exact ∙ ap option_copied c.in-Some.is in
    subst (λ (x : Meant). IfOk c.meaning.result (λ m. IsMeant m x))
    (ap (λ (known : FlatMap). erased sees shows part known q c.args.tid 1000000 c.args.given.now) c.in_ok-known.ensures
    ∙ ap (λ (o : Option Request). erased_of sees shows part o c.args.tid (map_of (objects_of c.args.rows.now)) c.args.given.now) (sym asked))
    c.meaning.ensures
