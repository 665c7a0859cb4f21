use Rattle.std.proofs.Common.{◌≡◌, length, fold}
use Rattle.fab_worker.specs.Records.{AreEnding, decisions_behind, session_behind}
use Rattle.fab_worker.proofs.recovery.keep_all.Given as goal

abbrev pub invariant-loop-entry : goal.invariant-loop-entry
invariant-loop-entry l = record {
  ending : AreEnding l.session.requests l.rest (length l.session.outcomes);
  session : fold (λ s entry. session_behind entry s) l.session l.rest ≡ fold (λ s entry. session_behind entry s) l.fn.session l.entries;
  decided : fold (λ ds entry. decisions_behind entry ds) l.decided.items l.rest ≡ fold (λ ds entry. decisions_behind entry ds) l.fn.decided.items l.entries;
}

abbrev pub decreases-loop-entry : goal.decreases-loop-entry
decreases-loop-entry l = length l.rest
