use Rattle.std.proofs.Common.{List, ap, ◌∙◌, map}
use Rattle.std.proofs.lemmas.List.{take_all}
use Rattle.fab_base.specs.FlatMap.{map_of}
use Rattle.fab_net.specs.declared.note.Commit.{Commit}
use Rattle.fab_protocol.specs.Versions.{objects_of}
use Rattle.fab_rights.specs.Computed.{has_bit}
use Rattle.fab_settings.specs.Settings.{meant_of, request_at}
use Rattle.fab_trust.specs.Endorsing.{values_let_in}
use Rattle.fab_trust.proofs.Letting.{all_endorsed}
use Rattle.fab_trust.proofs.endorsing.endorsed.Goals as goal

pub returns : goal.returns
returns c =
    let r = c.args.checked.now.start.now in
    let doors = c.in_ok-doors.doors in
    record {
      exact =
          c.loop-commit.invariant
          ∙ ap (λ (cs : List Commit). map (λ (k : Commit). values_let_in doors (meant_of r (request_at r k.worker k.request) k.tid (map_of (objects_of k.answers))).downs) cs)
          (take_all c.loop-commit.commit-index c.args.commits.now c.loop-commit-test.false)
          ∙ all_endorsed (has_bit c.args.part.now.labels) (has_bit c.args.part.now.classes) r doors c.args.commits.now c.in_ok-doors.ensures;
    }
