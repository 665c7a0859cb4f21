use Rattle.std.proofs.Common.{◌≡◌, IfOk, Option, subst, ◌∙◌}
use Rattle.fab_base.specs.FlatMap.{map_of}
use Rattle.fab_protocol.specs.declared.parts.Parts.{Parts}
use Rattle.fab_protocol.specs.Versions.{objects_of}
use Rattle.fab_known.specs.Knowing.{Knows, Runner, parts_at_end, ran_by}
use Rattle.fab_known.proofs.known.Known.parts.Goals as goal

pub returns : goal.returns
returns c =
    let i = c.self.inside in
    let t = c.args.tid in
    let r : Runner = record { program = i.part.now; seen = i.seen } in
    let seen : Knows = record { rows = c.as_slice-rows.result.now; given = c.as_slice-given.result.now; by = r } in
    let same : seen ≡ c.args.self.now = (λ j. record { rows = c.as_slice-rows.ensures j; given = c.as_slice-given.ensures j; by = r }) ∙ c.self.view_is in
    subst (λ (k : Knows). IfOk c.parts_at_end.result (λ (parts : Option Parts). parts ≡ parts_at_end k.rows (ran_by k.by t.worker c.args.number t (map_of (objects_of k.rows)) k.given)))
    same c.parts_at_end.ensures
