use Rattle.std.proofs.Common.{◌≡◌, ℕ, ◌<◌, ◌==◌, ◌++◌, [], if◌then◌else◌}
use Rattle.fab_sent.specs.Messages.{messages_in, messages_to}
use Rattle.fab_sent.proofs.sent.Sent.put_all.Given as goal

abbrev pub invariant-loop-receiver : goal.invariant-loop-receiver
invariant-loop-receiver l =
    (n d : ℕ) → n < 64 → d < 64 → messages_in l.self n d ≡ messages_in l.initial.self n d ++ (if l.sender == n then messages_to d l.yielded else [])
