use Rattle.std.proofs.Common.{refl, ap, Err, ◌≡◌, ◌∷◌, ◌++◌, [], length, map, rules, arith, sym, ◌∙◌, subst, append_assoc, append-nil}
use Rattle.std.proofs.lemmas.List.{length-append, nil_from_length}
use Rattle.fab_base.specs.Faults.{Rose}
use Rattle.fab_device.specs.Kept.{CannotFail, with_name}
use Rattle.fab_language.specs.Words.{node_text}
use Rattle.fab_replay.specs.Running.{AreNew, seen_by}
use Rattle.fab_replay.specs.Kept.{with_more}
use Rattle.fab_replay.proofs.Keeping.{more_none, named_one, new_on, new_one}
use Rattle.fab_replay.proofs.journals.make_journals.Goals as goal

pub push_reserved-requires : goal.push_reserved-requires
push_reserved-requires g c =
    let parts : c.nodes.rest.now ≡ c.in-Some.node.now ∷ c.in-Some.after.now = search rules in
    let long = ap length parts in
    let room = c.nodes.invariant.room in
    omega (arith, long, room)

pub nodes-preserved : goal.nodes-preserved
nodes-preserved g c =
    let J = g.M.Item.Journal in
    let M = g.M.Journals in
    let inv = c.nodes.invariant in
    let parts : c.nodes.rest.now ≡ c.in-Some.node.now ∷ c.in-Some.after.now = search rules in
    let made = c.in-Ok.ensures in
    let told = (M.seen c.args.journals.now).may_fail in
    let one = new_one told _ _ _ (seen_by J.content J.synced J.room J.faults J.sure c.in-Ok.journal)
    inv.told c.node_name.ensures made.content made.synced made.unfailed made.sure in
    record {
      done = inv.done ++ c.in-Some.node.now ∷ [];
      parts = append_assoc inv.done (c.in-Some.node.now ∷ []) c.in-Some.after.now ∙ ap (λ ns. inv.done ++ ns) (sym parts) ∙ inv.parts;
      made = subst (λ js. AreNew told c.args.program.now (inv.done ++ c.in-Some.node.now ∷ []) (map (seen_by J.content J.synced J.room J.faults J.sure) js)) (sym c.push_reserved.ensures.items)
          (new_on (seen_by J.content J.synced J.room J.faults J.sure) told c.args.program.now inv.done c.nodes.made.items c.in-Some.node.now c.in-Ok.journal inv.made one);
      room =
          let long = ap length parts in
          let room = inv.room in
          let more = ap length c.push_reserved.ensures.items ∙ length-append c.nodes.made.items (c.in-Ok.journal ∷ []) in
          let same = c.push_reserved.ensures.capacity in
          omega (arith, long, room, more, same);
      later = let before = inv.later in let now = made.cause.later in omega (arith, before, now);
      same = made.cause.success refl ∙ inv.same;
      names =
          made.made ∙ ap (λ k. with_name k c.node_name.result.now) inv.names
          ∙ named_one c.args.program.now (M.seen c.args.journals.now).made inv.done c.in-Some.node.now c.node_name.result.now c.node_name.ensures;
      kept = made.kept ∙ inv.kept;
      lost = made.lost ∙ inv.lost;
      told = made.told ∙ inv.told;
    }

pub nodes-init : goal.nodes-init
nodes-init g c =
    let J = g.M.Item.Journal in
    let M = g.M.Journals in
    record {
      done = [];
      parts = refl;
      made = subst (λ js. AreNew (M.seen c.args.journals.now).may_fail c.args.program.now [] (map (seen_by J.content J.synced J.room J.faults J.sure) js)) (sym c.requires.none) tt;
      room =
          let none = ap length c.requires.none in
          let room = c.requires.room in
          omega (arith, none, room);
      later = omega arith;
      same = refl;
      names = more_none (M.seen c.args.journals.now).made;
      kept = refl;
      lost = refl;
      told = refl;
    }

pub returns-clause-made : goal.returns-clause-made
returns-clause-made g c =
    let J = g.M.Item.Journal in
    let M = g.M.Journals in
    let inv = c.nodes.invariant in
    let none : length c.nodes.rest.now ≡ 0 = search (rules, c.in_default.ensures.cases) in
    let parts : inv.done ≡ c.args.nodes.now = sym (append-nil inv.done) ∙ ap (λ ns. inv.done ++ ns) (sym (nil_from_length c.nodes.rest.now none)) ∙ inv.parts in
    subst (λ ns. AreNew (M.seen c.args.journals.now).may_fail c.args.program.now ns (map (seen_by J.content J.synced J.room J.faults J.sure) c.nodes.made.items)) parts inv.made

pub returns-clause-all : goal.returns-clause-all
returns-clause-all g c =
    let M = g.M.Journals in
    let inv = c.nodes.invariant in
    let none : length c.nodes.rest.now ≡ 0 = search (rules, c.in_default.ensures.cases) in
    let parts : inv.done ≡ c.args.nodes.now = sym (append-nil inv.done) ∙ ap (λ ns. inv.done ++ ns) (sym (nil_from_length c.nodes.rest.now none)) ∙ inv.parts in
    inv.names ∙ ap (λ ns. with_more (M.seen c.args.journals.now).made (map (node_text c.args.program.now) ns)) parts

pub returns-in-Err-Memory-clause-failed : goal.returns-in-Err-Memory-clause-failed
returns-in-Err-Memory-clause-failed g c =
    let inv = c.nodes.invariant in
    let made = c.in-Err-Memory.ensures in
    record {
      before = inv.done;
      behind = c.nodes.rest.now;
      parts = sym inv.parts;
      are = inv.made;
      made = made.unmade ∙ inv.names;
      same = made.cause.memory (ap Err c.in-Err-Memory.field-0-is) ∙ inv.same;
    }

pub returns-in-Err-Failed-clause-failed : goal.returns-in-Err-Failed-clause-failed
returns-in-Err-Failed-clause-failed g c =
    let M = g.M.Journals in
    let inv = c.nodes.invariant in
    let parts : c.nodes.rest.now ≡ c.in-Some.node.now ∷ c.in-Some.after.now = search rules in
    let made = c.in-Err-Failed.ensures in
    let failed = ap Err c.in-Err-Failed.field-0-is in
    record {
      before = inv.done;
      behind = c.in-Some.after.now;
      parts = sym (ap (λ ns. inv.done ++ ns) (sym parts) ∙ inv.parts);
      are = inv.made;
      made = made.unmade ∙ inv.names;
      rose = subst (λ n. Rose n (M.seen c.make.new.self).faults) inv.same (made.cause.failed failed);
      possible = λ cannot.
          made.never (subst (λ t. CannotFail t c.node_name.result.now) (sym inv.told)
          (subst (CannotFail (M.seen c.args.journals.now).may_fail) (sym c.node_name.ensures) cannot)) failed;
    }

pub returns-clause-same : goal.returns-clause-same
returns-clause-same g c = c.nodes.invariant.same
