use Rattle.std.proofs.Common.{◌≡◌, true, false, Some, is_some, sym, ap, ◌∙◌}
use Rattle.std.specs.Map.{values_of}
use Rattle.std.proofs.lemmas.Bool.{false≢true}
use Rattle.fab_protocol.specs.Versions.{is_tid}
use Rattle.fab_protocol.specs.Stores.{Prepared, prepared_as, without}
use Rattle.fab_locks.specs.Conflicts.{holds_tid}
use Rattle.fab_locks.specs.Indexes.{is_of, under}
use Rattle.fab_locks.proofs.Agreeing.{agrees_less}
use Rattle.fab_locks.proofs.Finding.{all_found, given_back, held_if_numbered, held_less}
use Rattle.fab_locks.proofs.Joining.{distinct_left}
use Rattle.fab_locks.proofs.Tids.{prepared_absent, without_absent}
use Rattle.fab_locks.proofs.indexed.Indexed.free.Goals as goal

-- it isn't held
pub returns-in_err-number-clause-items : goal.returns-in_err-number-clause-items
returns-in_err-number-clause-items c =
    let x = c.self.inside in
    let away : holds_tid c.args.tid (values_of x.held.entries) ≡ false =
    sym (held_if_numbered x.held.entries x.index c.self.invariant (all_found x.held c.self.invariant.ordered) c.args.tid) ∙ ap is_some (sym c.in_err-number.ensures) in
    rw c.from_residual.ensures (prepared_absent c.args.tid c.args.self.now (ap (holds_tid c.args.tid) (sym c.self.view_is) ∙ away))

pub returns-in_err-number-clause-held : goal.returns-in_err-number-clause-held
returns-in_err-number-clause-held c =
    let x = c.self.inside in
    let away : holds_tid c.args.tid (values_of x.held.entries) ≡ false =
    sym (held_if_numbered x.held.entries x.index c.self.invariant (all_found x.held c.self.invariant.ordered) c.args.tid) ∙ ap is_some (sym c.in_err-number.ensures) in
    sym (without_absent c.args.tid c.args.self.now (ap (holds_tid c.args.tid) (sym c.self.view_is) ∙ away))

-- it is under its number
pub invariant_of-self : goal.invariant_of-self
invariant_of-self c =
    let x = c.self.inside in
    let es = x.held.entries in
    let p : Prepared = (c.in-Some.field-0-0, c.in-Some.items) in
    let at : under c.in_ok-number.number es ≡ Some p = sym c.in-Some.ensures.value in
    let mine : is_tid p.0 c.args.tid ≡ true =
    sym (ap (is_of c.args.tid) at) ∙ c.self.invariant.agrees.found c.args.tid c.in_ok-number.number (sym c.in_ok-number.ensures) in
    let left = c.remove.ensures.entries in
    record {
      ordered = c.remove.ensures.ordered;
      distinct = distinct_left c.args.tid (values_of es) (values_of c.remove.new.self.entries) c.self.invariant.distinct
          (ap values_of left ∙ held_less c.in_ok-number.number c.args.tid p mine es c.self.invariant.distinct at);
      agrees = agrees_less es c.remove.new.self.entries c.args.tid p c.in_ok-number.number at mine c.remove.ensures.updates.0 x.index c.take.new.self
          c.self.invariant.agrees c.take.ensures;
    }

pub returns-clause-items : goal.returns-clause-items
returns-clause-items c =
    let es = c.self.inside.held.entries in
    let p : Prepared = (c.in-Some.field-0-0, c.in-Some.items) in
    let at : under c.in_ok-number.number es ≡ Some p = sym c.in-Some.ensures.value in
    let mine : is_tid p.0 c.args.tid ≡ true =
    sym (ap (is_of c.args.tid) at) ∙ c.self.invariant.agrees.found c.args.tid c.in_ok-number.number (sym c.in_ok-number.ensures) in
    ap (prepared_as c.args.tid) (sym c.self.view_is) ∙ given_back c.in_ok-number.number c.args.tid p mine es c.self.invariant.distinct at

pub returns-clause-held : goal.returns-clause-held
returns-clause-held c =
    let es = c.self.inside.held.entries in
    let p : Prepared = (c.in-Some.field-0-0, c.in-Some.items) in
    let at : under c.in_ok-number.number es ≡ Some p = sym c.in-Some.ensures.value in
    let mine : is_tid p.0 c.args.tid ≡ true =
    sym (ap (is_of c.args.tid) at) ∙ c.self.invariant.agrees.found c.args.tid c.in_ok-number.number (sym c.in_ok-number.ensures) in
    ap values_of c.remove.ensures.entries
    ∙ held_less c.in_ok-number.number c.args.tid p mine es c.self.invariant.distinct at
    ∙ ap (without c.args.tid) c.self.view_is

pub unreachable-requires : goal.unreachable-requires
unreachable-requires c =
    let found = c.self.invariant.agrees.found c.args.tid c.in_ok-number.number (sym c.in_ok-number.ensures) in
    false≢true (ap (is_of c.args.tid) c.in-None.ensures.value ∙ found)
