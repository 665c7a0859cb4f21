use Rattle.std.proofs.Common.{◌≡◌, ◌+◌, ◌<◌, ◌++◌, length}
use Rattle.std.specs.List.{AllByRecursion}
use Rattle.fab_sent.specs.Messages.{messages_in}
use Rattle.fab_listing.specs.Listing.{count_from, lines_from}
use Rattle.fab_listing.proofs.listing.put_from.Given as goal

abbrev pub invariant-receivers : goal.invariant-receivers
invariant-receivers l = record {
  below : AllByRecursion (λ d. d < 64) l.rest;
  text : l.out ++ lines_from l.program (messages_in l.sent) l.rest l.sender ≡ l.fn.out ++ lines_from l.program (messages_in l.sent) l.receivers l.sender;
  count : l.count + count_from (messages_in l.sent) l.rest l.sender ≡ count_from (messages_in l.sent) l.receivers l.sender;
}

abbrev pub decreases-receivers : goal.decreases-receivers
decreases-receivers l = length l.rest
