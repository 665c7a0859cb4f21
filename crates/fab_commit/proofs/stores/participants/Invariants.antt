use Rattle.std.proofs.Common.{◌≡◌, [], fold, take}
use Rattle.fab_base.specs.JournalSpelling.{AscendFrom}
use Rattle.fab_protocol.specs.Parts.{with_number}
use Rattle.fab_commit.proofs.stores.participants.Given as goal

-- the stores of what was touched so far, and then of what was made
abbrev pub invariant-loop-touched : goal.invariant-loop-touched
invariant-loop-touched l = record {
  so_far : l.stores.items ≡ fold (λ ns t. with_number ns t.0.store) [] (take l.touched-index l.touched-items);
  ascending : AscendFrom 0 l.stores.items;
}

abbrev pub invariant-loop-create : goal.invariant-loop-create
invariant-loop-create l = record {
  so_far : l.stores.items ≡ fold (λ ns c. with_number ns c.0.store) (fold (λ ns t. with_number ns t.0.store) [] l.parts.touched) (take l.create-index l.create-items);
  ascending : AscendFrom 0 l.stores.items;
}
