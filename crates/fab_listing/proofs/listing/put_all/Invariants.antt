use Rattle.std.proofs.Common.{◌≡◌, ◌+◌, ◌<◌, ◌++◌, length, flat_map, sum_by}
use Rattle.std.specs.List.{AllByRecursion}
use Rattle.fab_sent.specs.Messages.{messages_in}
use Rattle.fab_listing.specs.Listing.{count_from, lines_from}
use Rattle.fab_listing.proofs.listing.put_all.Given as goal

abbrev pub invariant-senders : goal.invariant-senders
invariant-senders l = record {
  below : AllByRecursion (λ n. n < 64) l.rest;
  text : l.out ++ flat_map (lines_from l.program (messages_in l.sent) l.receivers) l.rest ≡ l.fn.out ++ flat_map (lines_from l.program (messages_in l.sent) l.receivers) l.senders;
  count : l.count + sum_by (count_from (messages_in l.sent) l.receivers) l.rest ≡ sum_by (count_from (messages_in l.sent) l.receivers) l.senders;
}

abbrev pub decreases-senders : goal.decreases-senders
decreases-senders l = length l.rest
