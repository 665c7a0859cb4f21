use Rattle.std.proofs.Common.{rules}
use Rattle.std.proofs.lemmas.List.Sorted.{answers_always}
use Rattle.fab_map.proofs.Made.{ascends_sorted, sorted_is_map_of}
use Rattle.fab_map.proofs.map.ObjectMap.from_rows.Goals as goal

-- the closure gives a row's name
pub invariant_of-result : goal.invariant_of-result
invariant_of-result c =
    let facts = c.sort_unstable_by_key.ensures in
    ascends_sorted c.args.rows.items c.sort_unstable_by_key.new.self.items facts.permutation c.requires
    (facts.sorted (λ row. row.0) (answers_always _ _ _ (λ f a r g called. search rules)))

pub returns : goal.returns
returns c =
    let facts = c.sort_unstable_by_key.ensures in
    sorted_is_map_of c.args.rows.items c.sort_unstable_by_key.new.self.items facts.permutation c.requires
    (facts.sorted (λ row. row.0) (answers_always _ _ _ (λ f a r g called. search rules)))
