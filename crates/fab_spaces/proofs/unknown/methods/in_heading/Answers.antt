use Rattle.std.specs.List.{flat_map}
use Rattle.fab_language.specs.Unknown.{in_label, in_parameter, in_principal, in_returns}
use Rattle.fab_spaces.proofs.Parts.{in_each, in_four}
use Rattle.fab_spaces.proofs.unknown.methods.in_heading.Goals as goal

pub returns : goal.returns
returns c =
    let s = c.args.tables.now in
    let m = c.args.method.now in
    let parts = in_four c.args.first (flat_map (in_parameter s) m.parameters) (in_returns s m.returns) (in_label s m.begin) (flat_map (in_principal s) m.authority) in
    let parameters = in_each c.args.first (in_parameter s) m.parameters in
    let authority = in_each c.in_label-first.result (in_principal s) m.authority in
    cc
