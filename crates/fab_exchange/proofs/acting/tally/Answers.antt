use Rattle.std.proofs.Common.{◌≡◌, ◌<◌, ◌≤◌, ◌++◌, ◌∷◌, [], length, sym, ap, ◌∙◌, subst, arith}
use Rattle.std.specs.Prelude.{slice_index_or, slice_set}
use Rattle.std.proofs.lemmas.List.{get_or_read}
use Rattle.fab_net.specs.Events.{node_at}
use Rattle.fab_core.specs.Moved.{move_by}
use Rattle.fab_exchange.specs.Exchanges.{AreCounts, none_yet}
use Rattle.fab_exchange.specs.Tallies.{counted_in, crashed_in}
use Rattle.fab_exchange.specs.declared.counting.Count.{Count}
use Rattle.fab_exchange.proofs.Counted.{counts_added, few_crashes, few_events, one_added}
use Rattle.fab_exchange.proofs.acting.tally.Goals as goal

pub returns-then-place-len : goal.returns-then-place-len
returns-then-place-len c moves few are =
    let items = c.args.counts.now.items in
    let n = node_at c.args.event in
    let old = c.index-old.result.now in
    let x : Count = record { events = c.saturating_add.result; crashes = c.saturating_add-then-place-len.result } in
    let at : c.from-place.result ≡ n = c.from-place.ensures ∙ c.node_at.ensures in
    let long : length items ≡ 64 = are.long in
    let len = c.len.ensures in
    let inside = c.if-place-len.true in
    let below : c.from-place.result < length items = omega arith in
    let near : n < 64 = omega (arith, at, long, below) in
    let is : old ≡ slice_index_or items n none_yet = get_or_read items c.from-place.result old below c.index-old.ensures none_yet
    ∙ ap (λ k. slice_index_or items k none_yet) at in
    let events = few_events c.args.event c.args.applied moves n in
    let crashes = few_crashes c.args.event c.args.applied moves n in
    let had = is ∙ are.each n near in
    subst (λ k. AreCounts (moves ++ move_by c.args.applied c.args.event ∷ []) (slice_set items k x)) (sym at)
    (counts_added c.args.event c.args.applied moves items are near old c.saturating_add.result c.saturating_add-then-place-len.result is
    (one_added old.events (length moves) c.from.result c.saturating_add.result (counted_in c.args.event) c.saturating_add.ensures c.from.ensures c.counted_in.ensures
    (subst (λ k. k ≤ length moves) (sym (ap (λ (z : Count). z.events) had)) events) few)
    (one_added old.crashes (length moves) c.from-then-place-len.result c.saturating_add-then-place-len.result (crashed_in c.args.event c.args.applied)
    c.saturating_add-then-place-len.ensures c.from-then-place-len.ensures c.crashed_in.ensures (subst (λ k. k ≤ length moves) (sym (ap (λ (z : Count). z.crashes) had)) crashes) few))
