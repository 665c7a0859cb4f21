use Rattle.std.proofs.Common.{ap, sym, ◌∙◌, subst, is_some}
use Rattle.std.proofs.lemmas.Bool.{false≢true}
use Rattle.fab_base.specs.FlatMap.{get, put, ascends}
use Rattle.fab_map.specs.Places.{IsAt, IsGap}
use Rattle.fab_map.proofs.Rows.{ascends-put}
use Rattle.fab_map.proofs.Found.{get_in_gap, put_at, put_in_gap}
use Rattle.fab_map.proofs.map.ObjectMap.put.Goals as goal

-- the name is there, and its row is written over
pub invariant_of-self : goal.invariant_of-self
invariant_of-self c =
    let at = subst (λ l. IsAt l c.args.oid c.in-Ok.at) c.deref.ensures.value c.in-Ok.ensures.found in
    ap ascends (sym (put_at c.self.inside.rows.items c.self.invariant c.args.oid c.in-Ok.at at c.args.object))
    ∙ ascends-put c.args.oid c.args.object c.self.inside.rows.items c.self.invariant

pub returns-in-Ok-clause-ok : goal.returns-in-Ok-clause-ok
returns-in-Ok-clause-ok c =
    let at = subst (λ l. IsAt l c.args.oid c.in-Ok.at) c.deref.ensures.value c.in-Ok.ensures.found in
    sym (put_at c.self.inside.rows.items c.self.invariant c.args.oid c.in-Ok.at at c.args.object)
    ∙ ap (put c.args.oid c.args.object) c.self.view_is

-- the name is not there, and its row is inserted
pub invariant_of-self-in-Err : goal.invariant_of-self-in-Err
invariant_of-self-in-Err c =
    let gap = subst (λ l. IsGap l c.args.oid c.in-Err.at) c.deref.ensures.value c.in-Err.ensures.absent in
    ap ascends (c.in_ok-insert-in-Err.ensures.items ∙ sym (put_in_gap c.self.inside.rows.items c.args.oid c.in-Err.at gap c.args.object))
    ∙ ascends-put c.args.oid c.args.object c.self.inside.rows.items c.self.invariant

pub returns-in_ok-insert-in-Err-clause-ok : goal.returns-in_ok-insert-in-Err-clause-ok
returns-in_ok-insert-in-Err-clause-ok c =
    let gap = subst (λ l. IsGap l c.args.oid c.in-Err.at) c.deref.ensures.value c.in-Err.ensures.absent in
    c.in_ok-insert-in-Err.ensures.items
    ∙ sym (put_in_gap c.self.inside.rows.items c.args.oid c.in-Err.at gap c.args.object)
    ∙ ap (put c.args.oid c.args.object) c.self.view_is

-- want of memory comes only for a name that is not there
pub returns-in_err-insert-in-Err-clause-known : goal.returns-in_err-insert-in-Err-clause-known
returns-in_err-insert-in-Err-clause-known c found =
    let gap = subst (λ l. IsGap l c.args.oid c.in-Err.at) c.deref.ensures.value c.in-Err.ensures.absent in
    let none = ap (λ l. get l c.args.oid) (sym c.self.view_is) ∙ get_in_gap c.self.inside.rows.items c.args.oid c.in-Err.at gap in
    absurd (false≢true (ap is_some (sym none) ∙ found))
