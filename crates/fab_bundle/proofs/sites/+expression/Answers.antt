use Rattle.fab_bundle.proofs.CountRules.{sites_of_chain, sites_of_compared, chain_seen, both_seen, after_both}
use Rattle.fab_bundle.proofs.sites.+expression.Goals as goal

pub room_after_expression-returns-in_ok-left-in-Chain :
    goal.room_after_expression-returns-in_ok-left-in-Chain
room_after_expression-returns-in_ok-left-in-Chain t c =
    let size = sites_of_chain c.args.expression.now c.in-Chain.first c.in-Chain.others c.in-Chain.is in
    let seen = chain_seen c.in-Chain.first c.get-in-Chain.result.now c.in-Chain.others c.as_slice.result.now _ c.get-in-Chain.ensures c.as_slice.ensures size in
    after_both _ _ _ _ _ _ c.in_ok-left-in-Chain.ensures seen c.room_after_operands.ensures

pub room_after_expression-returns-in_ok-room-in-Compared :
    goal.room_after_expression-returns-in_ok-room-in-Compared
room_after_expression-returns-in_ok-room-in-Compared t c =
    let size = sites_of_compared c.args.expression.now c.in-Compared.left c.in-Compared.right c.in-Compared.comparison c.in-Compared.is in
    let seen = both_seen c.in-Compared.left c.in-Compared.right c.get-in-Compared.result.now c.get-in-Compared-2.result.now _ c.get-in-Compared.ensures c.get-in-Compared-2.ensures size in
    after_both _ _ _ _ _ _ c.in_ok-room-in-Compared.ensures seen c.room_after_expression-in-Compared-2.ensures
