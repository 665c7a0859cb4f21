use Rattle.std.proofs.Common.{refl, arith, List, ap, ◌∙◌}
use Rattle.std.specs.List.{flat_map}
use Rattle.fab_tree.specs.declared.resolved.Method.{Method}
use Rattle.fab_labelling.specs.Sites.{method_sites}
use Rattle.fab_check.specs.Sited.{all_sited}
use Rattle.fab_check.proofs.Sitings.{none_sited, sited_in_parts}
use Rattle.fab_authority.proofs.Walks.{end, step}
use Rattle.fab_check.proofs.sites.put_methods.Goals as goal

pub loop-method-preserved : goal.loop-method-preserved
loop-method-preserved c =
    let sites = method_sites c.args.start.now.classes in
    let items = c.as_slice-method-items.result.now in
    step all_sited sited_in_parts (flat_map sites) sites (λ _ _. refl) c.loop-method.out c.put_method.new.out (all_sited c.args.out.now (flat_map sites items)) items c.loop-method.method-index c.method-item.result
    c.loop-method-test.true c.method-item.is c.in_ok-put_method.ensures c.loop-method.invariant

pub returns : goal.returns
returns c =
    let sites = method_sites c.args.start.now.classes in
    let items = c.as_slice-method-items.result.now in
    end all_sited sited_in_parts (flat_map sites) refl none_sited c.loop-method.out (all_sited c.args.out.now (flat_map sites items)) items c.loop-method.method-index (omega arith) c.loop-method.invariant
    ∙ ap (λ (ms : List Method). all_sited c.args.out.now (flat_map sites ms)) c.as_slice-method-items.ensures
