use Rattle.std.proofs.Common.{◌≡◌, Option, Some, subst, ◌∙◌}
use Rattle.fab_base.specs.FlatMap.{map_of}
use Rattle.fab_meaning.specs.declared.paused.Paused.{Paused}
use Rattle.fab_protocol.specs.Versions.{objects_of}
use Rattle.fab_known.specs.Knowing.{Knows, Lacks, Runner, ran_by}
use Rattle.fab_known.specs.Lasts.{IsRun, IsTurned}
use Rattle.fab_known.proofs.Knowing.{lacked}
use Rattle.fab_known.proofs.known.Known.lacks.Goals as goal

pub returns-in-Some-clause-lacks : goal.returns-in-Some-clause-lacks
returns-in-Some-clause-lacks c =
    let i = c.self.inside in
    let t = c.args.tid in
    let r : Runner = record { program = i.part.now; seen = i.seen } in
    let rows = c.as_slice-rows.result.now in
    let given = c.as_slice-given.result.now in
    let seen : Knows = record { rows = rows; given = given; by = r } in
    let is : IsRun r rows given c.args.number t c.in-Some.pause = subst (λ (o : Option Paused). IsTurned r rows given c.args.number t o) c.in-Some.is c.in_ok-turned.ensures in
    let same : seen ≡ c.args.self.now = (λ j. record { rows = c.as_slice-rows.ensures j; given = c.as_slice-given.ensures j; by = r }) ∙ c.self.view_is in
    subst (λ (k : Knows). Lacks (Some c.in-Some.pause.oid) (ran_by k.by t.worker c.args.number t (map_of (objects_of k.rows)) k.given).ending) same (lacked r given c.args.number t rows c.in-Some.pause is)
