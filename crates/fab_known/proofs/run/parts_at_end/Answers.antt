use Rattle.std.proofs.Common.{◌≡◌, None, Some, rules, sym, ap, ◌∙◌, subst}
use Rattle.fab_base.specs.FlatMap.{map_of}
use Rattle.fab_language.specs.declared.ending.Ending.{Ending}
use Rattle.fab_language.specs.declared.ending.Ending.TheVariants.{Ended}
use Rattle.fab_language.specs.Meaning.{Meant}
use Rattle.fab_protocol.specs.Versions.{objects_of}
use Rattle.fab_known.specs.Knowing.{parts_behind, ran_by}
use Rattle.fab_known.proofs.run.parts_at_end.Goals as goal

pub returns-in-Ended : goal.returns-in-Ended
returns-in-Ended c =
    let rows = c.args.rows.now in
    let what : Meant = ran_by (record { program = c.args.part.now; seen = c.args.seen }) c.args.tid.worker c.args.number c.args.tid (map_of (objects_of rows)) c.args.given.now in
    let ended : what.ending ≡ Ended c.in-Ended.value = sym c.in_ok-meant.ensures.ending ∙ c.in-Ended.is in
    ap Some (c.in_ok-parts_of-in-Ended.ensures what c.in_ok-meant.ensures ended) ∙ sym (ap (parts_behind rows what) ended)

pub returns : goal.returns
returns c =
    let rows = c.args.rows.now in
    let what : Meant = ran_by (record { program = c.args.part.now; seen = c.args.seen }) c.args.tid.worker c.args.number c.args.tid (map_of (objects_of rows)) c.args.given.now in
    subst (λ (e : Ending). None ≡ parts_behind rows what e) c.in_ok-meant.ensures.ending (search rules)
