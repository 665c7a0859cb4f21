use Rattle.std.proofs.Common.{rules}
use Rattle.fab_answers.proofs.said.of_bundle.Goals as goal

pub returns-in_ok-status-in-Check : goal.returns-in_ok-status-in-Check
returns-in_ok-status-in-Check c = rw c.in-Check.is c.in_ok-status-in-Check.ensures

pub returns-in_ok-status-in-Evaluate : goal.returns-in_ok-status-in-Evaluate
returns-in_ok-status-in-Evaluate c = rw c.in-Evaluate.is c.in_ok-status-in-Evaluate.ensures

pub returns-in_ok-status-in-Flows : goal.returns-in_ok-status-in-Flows
returns-in_ok-status-in-Flows c = rw c.in-Flows.is c.in_ok-status-in-Flows.ensures

pub returns-in_ok-status-in-Format : goal.returns-in_ok-status-in-Format
returns-in_ok-status-in-Format c = rw c.in-Format.is c.in_ok-status-in-Format.ensures

pub returns-in-Replay : goal.returns-in-Replay
returns-in-Replay c = (search rules, c.requires.front)
