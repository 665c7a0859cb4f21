use Rattle.std.proofs.Common.{sym, ap, ◌∙◌}
use Rattle.std.specs.List.{flat_map}
use Rattle.fab_language.specs.Types as kinds
use Rattle.fab_language.specs.Types.{in_method}
use Rattle.fab_rules.specs.First.{first_from}
use Rattle.fab_rules.proofs.Firsts.{in_parts}
use Rattle.fab_faults.specs.HeadFaults.{among}
use Rattle.fab_language.specs.Heads.{heads_of}
use Rattle.fab_spaces.proofs.Parts.{one_more}
use Rattle.fab_faults.proofs.bundle.mistyped_in_methods.Goals as goal

pub loop-method-preserved : goal.loop-method-preserved
loop-method-preserved c =
    let s = c.args.tables.now in
    let m = c.method-item.result in
    let front = kinds.if_so (kinds.says_so s m.returns m.result) m.name.at in
    let rest = among (λ k h. kinds.in_head s k m.returns h) (heads_of m) in
    let n = c.in_ok-first.ensures ∙ ap (λ a. first_from a rest) c.in_heading-first.ensures ∙ sym (in_parts c.loop-method.first front rest) in
    one_more (in_method s) c.args.methods.now c.loop-method.method-index m c.loop-method-test.true c.method-item.is c.loop-method.first c.in_ok-first.first
    (first_from c.args.first (flat_map (in_method s) c.args.methods.now)) n c.loop-method.invariant
