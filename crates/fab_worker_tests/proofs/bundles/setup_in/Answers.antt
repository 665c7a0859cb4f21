use Rattle.fab_setup.proofs.Numbers.{programs}
use Rattle.fab_worker_tests.proofs.bundles.setup_in.Goals as goal

pub returns-in-Some : goal.returns-in-Some
returns-in-Some c =
    let given = rw c.in-Some.is at c.in_ok-setup.ensures.given in
    programs c.in_ok-start.start c.in-Some.setup c.in_ok-start.ensures given
