use Rattle.fab_print.proofs.Added.{both}
use Rattle.fab_print.proofs.program.put_program.Goals as goal

pub returns : goal.returns
returns c = both (rw c.as_slice.ensures at c.in_ok-print_all.ensures) (both (rw c.as_slice-2.ensures at c.in_ok-print_all-2.ensures) (both (rw c.as_slice-3.ensures at c.in_ok-print_all-3.ensures) (both (rw c.as_slice-4.ensures at c.in_ok-print_all-4.ensures) (rw c.as_slice-5.ensures at c.in_ok-print_all-5.ensures))))
