use Rattle.std.specs.List.{flat_map}
use Rattle.fab_tree.specs.declared.resolved.Root.{Root}
use Rattle.fab_settings.specs.Numbers.{in_method, in_session}
use Rattle.fab_fitting.proofs.Lists.{joined, same}
use Rattle.fab_fitting.proofs.whole.read_numbers.Goals as goal

pub returns : goal.returns
returns c =
    let methods = same (flat_map in_method) _ _ c.as_slice.ensures c.read_methods.ensures in
    let roots = same (flat_map (λ (x : Root). x.values)) _ _ c.as_slice-2.ensures c.read_roots.ensures in
    let sessions = same (flat_map in_session) _ _ c.as_slice-3.ensures c.read_sessions.ensures in
    joined _ _ (joined _ _ methods roots) sessions
