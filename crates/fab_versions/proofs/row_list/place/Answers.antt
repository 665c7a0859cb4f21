use Rattle.std.proofs.Common.{rules}
use Rattle.std.proofs.lemmas.List.Sorted.{answers_always}
use Rattle.fab_protocol.specs.Versions.{name_of}
use Rattle.fab_versions.proofs.Found.{searched_by_derived}
use Rattle.fab_versions.proofs.row_list.place.Goals as goal

-- the closure gives a row's name
pub returns : goal.returns
returns c =
    let facts = c.binary_search_by_key.ensures in
    let by_key = facts.position (λ row. row.0) (answers_always _ _ _ (λ f a r g called. search rules)) in
    searched_by_derived name_of c.args.rows.now c.requires c.args.oid c.binary_search_by_key.result facts.bound by_key
