use Rattle.std.proofs.Common.{IfOk, IfErr, subst, rules}
use Rattle.std.proofs.lemmas.List.Sorted.{answers_always}
use Rattle.fab_versions.specs.Places.{IsAt, IsGap}
use Rattle.fab_versions.proofs.Found.{searched_by_derived}
use Rattle.fab_versions.proofs.Standing.{key_of, keys_ascend, key_is, before_gap}
use Rattle.fab_versions.proofs.blocks.block_of.Goals as goal

pub returns-in-Ok : goal.returns-in-Ok
returns-in-Ok c =
    let facts = c.binary_search_by_key.ensures in
    let by_key = facts.position (λ b. b.0) (answers_always _ _ _ (λ f a r g called. search rules)) in
    let found = searched_by_derived key_of c.args.blocks.now (keys_ascend c.args.blocks.now c.requires) c.args.oid c.binary_search_by_key.result facts.bound by_key in
    key_is c.args.oid c.args.blocks.now c.requires c.in-Ok.at (subst (λ r. IfOk r (IsAt key_of c.args.blocks.now c.args.oid)) c.in-Ok.is found.found)

pub returns-in-Err : goal.returns-in-Err
returns-in-Err c =
    let facts = c.binary_search_by_key.ensures in
    let by_key = facts.position (λ b. b.0) (answers_always _ _ _ (λ f a r g called. search rules)) in
    let found = searched_by_derived key_of c.args.blocks.now (keys_ascend c.args.blocks.now c.requires) c.args.oid c.binary_search_by_key.result facts.bound by_key in
    before_gap c.args.oid c.args.blocks.now c.in-Err.at c.checked_sub-in-Err.result (subst (λ r. IfErr r (IsGap key_of c.args.blocks.now c.args.oid)) c.in-Err.is found.absent) c.checked_sub-in-Err.ensures
