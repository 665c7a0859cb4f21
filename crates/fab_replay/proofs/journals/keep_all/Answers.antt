use Rattle.std.proofs.Common.{◌≡◌, ◌∷◌, ◌++◌, [], length, map, refl, rules, sym, ap, ◌∙◌, append-nil}
use Rattle.std.specs.Prelude.{reverse, true, false}
use Rattle.std.proofs.lemmas.List.{reverse-reverse}
use Rattle.fab_device.specs.Kept.{one_more, with_entry}
use Rattle.fab_replay.specs.Kept.{unlost, with_more}
use Rattle.fab_replay.specs.Running.{entries_of, seen_by}
use Rattle.fab_replay.proofs.Keeping.{kept_on, lost_on, more_none, more_one, one_longer, still_none, unlost_on}
use Rattle.fab_replay.proofs.journals.keep_all.Goals as goal

pub nodes-init : goal.nodes-init
nodes-init g c =
    let J = g.M.Item.Journal in
    let M = g.M.Journals in
    record {
      done = [];
      losses = [];
      long = refl;
      back = more_none (M.seen c.args.journals.now).kept;
      lost = refl;
      none = (refl, refl);
      parts =
          ap (λ js. entries_of c.args.program.now c.args.nodes.now (map (seen_by J.content J.synced J.room J.faults J.sure) js))
          (ap reverse c.reverse.ensures.items ∙ reverse-reverse c.into_vec-left.result.items ∙ c.into_vec-left.ensures);
      made = refl;
      faults = refl;
      told = refl;
    }

pub nodes-preserved : goal.nodes-preserved
nodes-preserved g c =
    let J = g.M.Item.Journal in
    let M = g.M.Journals in
    let inv = c.nodes.invariant in
    let rest : c.nodes.rest.now ≡ c.in-Some.node.now ∷ c.in-Some.after.now = search rules in
    let j = c.in-Some-pop.journal in
    let kept = c.in-Err.ensures in
    record {
      done = inv.done ++ record { node = c.node_name.result.now; content = J.content j; synced = J.synced j; faults = J.faults j } ∷ [];
      losses = inv.losses ++ true ∷ [];
      long = one_longer inv.losses inv.done true _ inv.long;
      back =
          kept.err ∙ inv.back
          ∙ ap (with_more (M.seen c.args.journals.now).kept) (sym (append-nil (unlost inv.losses inv.done)) ∙ sym (unlost_on inv.losses inv.done true _ inv.long));
      lost = kept.lost ∙ ap one_more inv.lost ∙ sym (lost_on inv.losses (M.seen c.args.journals.now).lost true);
      none = tt;
      parts = kept_on (seen_by J.content J.synced J.room J.faults J.sure) c.args.program.now inv.done c.in-Some.node.now c.in-Some.after.now c.nodes.rest.now c.nodes.left.items
          c.pop.new.self.items j c.node_name.result.now _ rest c.in-Some-pop.ensures.items c.node_name.ensures inv.parts;
      made = kept.made ∙ inv.made;
      faults = kept.faults ∙ inv.faults;
      told = kept.told ∙ inv.told;
    }

pub nodes-preserved-in-Ok : goal.nodes-preserved-in-Ok
nodes-preserved-in-Ok g c =
    let J = g.M.Item.Journal in
    let M = g.M.Journals in
    let inv = c.nodes.invariant in
    let rest : c.nodes.rest.now ≡ c.in-Some.node.now ∷ c.in-Some.after.now = search rules in
    let j = c.in-Some-pop.journal in
    let kept = c.in-Ok.ensures in
    record {
      done = inv.done ++ record { node = c.node_name.result.now; content = J.content j; synced = J.synced j; faults = J.faults j } ∷ [];
      losses = inv.losses ++ false ∷ [];
      long = one_longer inv.losses inv.done false _ inv.long;
      back =
          kept.kept ∙ ap (λ k. with_entry k (record { node = c.node_name.result.now; content = J.content j; synced = J.synced j; faults = J.faults j })) inv.back
          ∙ more_one (M.seen c.args.journals.now).kept (unlost inv.losses inv.done) _
          ∙ ap (with_more (M.seen c.args.journals.now).kept) (sym (unlost_on inv.losses inv.done false _ inv.long));
      lost = kept.same ∙ inv.lost ∙ sym (lost_on inv.losses (M.seen c.args.journals.now).lost false);
      none = still_none (M.seen c.args.journals.now).lost c.nodes.kept inv.losses inv.done _ inv.long kept.same inv.none;
      parts = kept_on (seen_by J.content J.synced J.room J.faults J.sure) c.args.program.now inv.done c.in-Some.node.now c.in-Some.after.now c.nodes.rest.now c.nodes.left.items
          c.pop.new.self.items j c.node_name.result.now _ rest c.in-Some-pop.ensures.items c.node_name.ensures inv.parts;
      made = kept.made ∙ inv.made;
      faults = kept.faults ∙ inv.faults;
      told = kept.told ∙ inv.told;
    }
