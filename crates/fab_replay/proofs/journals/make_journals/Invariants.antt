use Rattle.std.proofs.Common.{◌≡◌, ◌≤◌, ◌+◌, ◌++◌, ℕ, List, length, map}
use Rattle.std.specs.Prelude.{vec_capacity}
use Rattle.fab_language.specs.Words.{node_text}
use Rattle.fab_replay.specs.Kept.{with_more}
use Rattle.fab_replay.specs.Running.{AreNew, seen_by}
use Rattle.fab_replay.proofs.journals.make_journals.Given as goal

-- there is one for each of those that are done, and room for one for each of those that are left
abbrev pub invariant-nodes : goal.invariant-nodes
invariant-nodes g l =
    let M = g.M.Journals in
    let J = g.M.Item.Journal in
    record {
      done : List ℕ;
      parts : done ++ l.rest ≡ l.fn.nodes;
      made : AreNew (M.seen l.fn.journals).may_fail l.program done (map (seen_by J.content J.synced J.room J.faults J.sure) l.made.items);
      room : length l.made.items + length l.rest ≤ vec_capacity l.made;
      later : (M.seen l.fn.journals).faults ≤ (M.seen l.journals).faults;
      same : (M.seen l.journals).faults ≡ (M.seen l.fn.journals).faults;
      names : (M.seen l.journals).made ≡ with_more (M.seen l.fn.journals).made (map (node_text l.program) done);
      kept : (M.seen l.journals).kept ≡ (M.seen l.fn.journals).kept;
      lost : (M.seen l.journals).lost ≡ (M.seen l.fn.journals).lost;
      told : (M.seen l.journals).may_fail ≡ (M.seen l.fn.journals).may_fail;
    }

abbrev pub decreases-nodes : goal.decreases-nodes
decreases-nodes g l = length l.rest
