use Rattle.std.proofs.Common.{◌≡◌, ◌++◌, ◌∷◌, [], None, false, sym, subst, ap, ◌∙◌}
use Rattle.std.specs.Map.{keys_of, values_of}
use Rattle.std.specs.BTreeMap.{get}
use Rattle.fab_base.specs.declared.message.Items.{Items}
use Rattle.fab_locks.specs.Conflicts.{AreDistinct, holds_tid}
use Rattle.fab_locks.specs.Indexes.{IsIndexed, Numbered, Taken, tid_cmp, under}
use Rattle.fab_locks.proofs.Agreeing.{agrees_more, agrees_same, taken_behind_put}
use Rattle.fab_locks.proofs.Finding.{all_below, all_found, held_more, not_numbered, number_free}
use Rattle.fab_locks.proofs.Tids.{distinct_push}
use Rattle.fab_locks.proofs.indexed.Indexed.add.Goals as goal

-- no memory for the indexes
pub invariant_of-self : goal.invariant_of-self
invariant_of-self c =
    let x = c.self.inside in
    let es = x.held.entries in
    let free : under c.in-Some.number es ≡ None = number_free c.in-Some.number es (all_below c.in-Some.number (keys_of es) c.in-Some.ensures) in
    let away : holds_tid c.args.tid (values_of es) ≡ false = ap (holds_tid c.args.tid) c.self.view_is ∙ c.requires.absent in
    let absent : get tid_cmp x.index.places c.args.tid ≡ None =
    not_numbered es x.index c.self.invariant (all_found x.held c.self.invariant.ordered) c.args.tid away in
    record {
      ordered = c.self.invariant.ordered;
      distinct = c.self.invariant.distinct;
      agrees = agrees_same es c.args.tid c.args.items c.in-Some.number free x.index c.put.new.self c.self.invariant.agrees absent c.in-Err.ensures.err;
    }

-- it is held
pub invariant_of-self-in-Ok-insert : goal.invariant_of-self-in-Ok-insert
invariant_of-self-in-Ok-insert c =
    let x = c.self.inside in
    let es = x.held.entries in
    let n = c.in-Some.number in
    let below = all_below n (keys_of es) c.in-Some.ensures in
    let away : holds_tid c.args.tid (values_of es) ≡ false = ap (holds_tid c.args.tid) c.self.view_is ∙ c.requires.absent in
    let absent : get tid_cmp x.index.places c.args.tid ≡ None =
    not_numbered es x.index c.self.invariant (all_found x.held c.self.invariant.ordered) c.args.tid away in
    record {
      ordered = c.insert.ensures.ordered;
      distinct = subst AreDistinct (sym (held_more n (c.args.tid, c.args.items) es c.insert.new.self.entries below c.in-Ok-insert.ensures.entries))
          (distinct_push (values_of es) c.args.tid c.args.items c.self.invariant.distinct away);
      agrees = agrees_more es c.insert.new.self.entries c.args.tid c.args.items n (number_free n es below) c.in-Ok-insert.ensures.updates.0 x.index
          c.put.new.self c.self.invariant.agrees absent c.in-Ok.ensures.ok;
    }

pub returns-in-Ok-insert-clause-ok : goal.returns-in-Ok-insert-clause-ok
returns-in-Ok-insert-clause-ok c =
    let es = c.self.inside.held.entries in
    let n = c.in-Some.number in
    held_more n (c.args.tid, c.args.items) es c.insert.new.self.entries (all_below n (keys_of es) c.in-Some.ensures) c.in-Ok-insert.ensures.entries
    ∙ ap (λ ps. ps ++ (c.args.tid, c.args.items) ∷ []) c.self.view_is

-- no memory for it
pub invariant_of-self-in-Err-insert : goal.invariant_of-self-in-Err-insert
invariant_of-self-in-Err-insert c =
    let x = c.self.inside in
    let es = x.held.entries in
    let n = c.in-Some.number in
    let free : under n es ≡ None = number_free n es (all_below n (keys_of es) c.in-Some.ensures) in
    let away : holds_tid c.args.tid (values_of es) ≡ false = ap (holds_tid c.args.tid) c.self.view_is ∙ c.requires.absent in
    let absent : get tid_cmp x.index.places c.args.tid ≡ None =
    not_numbered es x.index c.self.invariant (all_found x.held c.self.invariant.ordered) c.args.tid away in
    let same : c.in-Err-insert.refused.value.1.1 ≡ c.args.items = ap (λ v. v.1.1) c.in-Err-insert.ensures.value_returned in
    let taken : Taken c.args.tid c.args.items n c.put.new.self c.take.new.self =
    subst (λ (i : Items). Taken c.args.tid i n c.put.new.self c.take.new.self) same c.take.ensures in
    subst (λ (l : Numbered). IsIndexed l c.take.new.self) (sym c.in-Err-insert.ensures.err) (record {
      ordered = c.self.invariant.ordered;
      distinct = c.self.invariant.distinct;
      agrees = agrees_same es c.args.tid c.args.items n free x.index c.take.new.self c.self.invariant.agrees absent
          (taken_behind_put c.args.tid c.args.items n x.index c.put.new.self c.take.new.self c.in-Ok.ensures.ok taken);
    })
