use Rattle.std.proofs.Common.{◌≡◌, ◌+◌, ◌++◌, ◌∷◌, [], List, suc, map, sym, ap, ◌∙◌, arith}
use Rattle.std.specs.List.{range_with_len}
use Rattle.std.proofs.lemmas.List.{map-append}
use Rattle.fab_protocol.specs.Stores.{unheard}
use Rattle.fab_protocol.specs.declared.sender.Sender.{Sender}
use Rattle.fab_store.proofs.Numbers.{one_more_from_zero}
use Rattle.fab_store.proofs.senders.none_heard.Goals as goal

pub loop-node-preserved : goal.loop-node-preserved
loop-node-preserved c =
    let n = c.loop-node.node in
    let next : suc n ≡ n + 1 = omega arith in
    c.in_ok-push.ensures.items
    ∙ ap (λ (xs : List Sender). xs ++ c.unheard.result ∷ []) c.loop-node.invariant
    ∙ ap (λ (x : Sender). map unheard (range_with_len 0 n) ++ x ∷ []) c.unheard.ensures
    ∙ sym (map-append unheard (range_with_len 0 n) (n ∷ []))
    ∙ sym (ap (map unheard) (one_more_from_zero n))
    ∙ ap (λ k. map unheard (range_with_len 0 k)) next
