use Rattle.std.proofs.Common.{[], ◌∷◌}
use Rattle.fab_language.specs.declared.rule.NameRule.TheVariants.{Doubled}
use Rattle.fab_spaces.proofs.Noting.{one_more, told}
use Rattle.fab_spaces.proofs.doubled.named.noted_once.Goals as goal

pub returns-clause-fault : goal.returns-clause-fault
returns-clause-fault c =
    told c.args.seen.now c.insert.new.self c.as_str.result c.args.name.now.text c.as_str.ensures c.in_ok-is_new.is_new c.args.first c.noted_unless.result
    (record { rule = Doubled; at = c.args.name.now.at } ∷ []) c.in_ok-is_new.ensures.added c.noted_unless.ensures

pub returns-clause-noted : goal.returns-clause-noted
returns-clause-noted c = one_more c.args.seen.now c.insert.new.self c.as_str.result c.args.name.now.text c.as_str.ensures c.in_ok-is_new.ensures.keys
