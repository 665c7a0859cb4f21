use Rattle.std.proofs.Common.{◌≡◌, ◌<◌, sum, MatchBool}
use Rattle.std.specs.List.{AllWithin}
use Rattle.fab_authority.specs.Called.{AreGrown, IsSettled}
use Rattle.fab_authority.proofs.authority.gain_all.Given as goal

abbrev pub invariant-loop-call : goal.invariant-loop-call
invariant-loop-call l = record {
  grown : AreGrown l.calls l.initial.sets l.sets;
  settled : MatchBool l.more (sum l.initial.sets < sum l.sets) ((l.sets ≡ l.initial.sets) × AllWithin (IsSettled l.initial.sets) l.calls 0 l.call-index);
}
