use Rattle.std.proofs.Common.{◌<◌, ◌^◌, arith, sym, subst, ◌∙◌}
use Rattle.fab_base.specs.JournalSpelling.{AscendFrom}
use Rattle.fab_commit.proofs.Numbers.{number_ascends}
use Rattle.fab_commit.proofs.stores.add_number.Goals as goal

-- the number is inserted where it goes
pub returns-in_ok-insert-clause-ascending : goal.returns-in_ok-insert-clause-ascending
returns-in_ok-insert-clause-ascending c =
    let absent = rw c.deref.ensures.value at c.in-Err.ensures.absent in
    let small : c.args.number < 2 ^ 16 = omega arith in
    subst (AscendFrom 0) (absent ∙ sym c.in_ok-insert.ensures.items) (number_ascends c.args.numbers.now.items c.args.number small c.requires)
