use Rattle.std.proofs.Common.{◌≡◌, ◌++◌, List, length, map}
use Rattle.std.specs.Prelude.{Bool, reverse, OnOk}
use Rattle.fab_device.specs.Kept.{Entry}
use Rattle.fab_replay.specs.Kept.{lost_behind, unlost, with_more}
use Rattle.fab_replay.specs.Running.{entries_of, seen_by}
use Rattle.fab_replay.proofs.journals.keep_all.Given as goal

-- these were given back, and with those that are left they come to the whole
abbrev pub invariant-nodes : goal.invariant-nodes
invariant-nodes g l =
    let M = g.M.Journals in
    let J = g.M.Item.Journal in
    record {
      done : List Entry;
      losses : List Bool;
      long : length losses ≡ length done;
      back : (M.seen l.journals).kept ≡ with_more (M.seen l.fn.journals).kept (unlost losses done);
      lost : (M.seen l.journals).lost ≡ lost_behind (M.seen l.fn.journals).lost losses;
      none : OnOk l.kept ((unlost losses done ≡ done) × ((M.seen l.journals).lost ≡ (M.seen l.fn.journals).lost));
      parts : done ++ entries_of l.program l.rest (map (seen_by J.content J.synced J.room J.faults J.sure) (reverse l.left.items))
          ≡ entries_of l.program l.fn.nodes (map (seen_by J.content J.synced J.room J.faults J.sure) l.fn.all);
      made : (M.seen l.journals).made ≡ (M.seen l.fn.journals).made;
      faults : (M.seen l.journals).faults ≡ (M.seen l.fn.journals).faults;
      told : (M.seen l.journals).may_fail ≡ (M.seen l.fn.journals).may_fail;
    }

abbrev pub decreases-nodes : goal.decreases-nodes
decreases-nodes g l = length l.rest
