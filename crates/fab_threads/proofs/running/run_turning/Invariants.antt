use Rattle.fab_threads.proofs.running.run_turning.Given as goal

abbrev pub ghosts-run_named-N-Ledger : goal.ghosts-run_named-N-Ledger
ghosts-run_named-N-Ledger g a = record { name = a.blank.name; parts = a.blank.parts }

abbrev pub ghosts-run_named-N-RunName : goal.ghosts-run_named-N-RunName
ghosts-run_named-N-RunName g a = record { given = g.X.Turning.given a.held; sure = λ n. g.X.Turning.sure a.held n }
