use Rattle.std.proofs.Common.{◌++◌, sym, ap, subst, append-nil, arith}
use Rattle.std.proofs.lemmas.Result.{err_from_is_err_and}
use Rattle.fab_tree.specs.Lists.{Is}
use Rattle.fab_reading.specs.Reading.{Lacks}
use Rattle.fab_reading.proofs.Rules.{alike, part, sign, one_more, stop_part, sign_shorter, read_shorter, not_true, whole}
use Rattle.fab_reading.proofs.ItemRules.{no_items, first_item, next_item, last_item, items_meet, items_text}
use Rattle.fab_reading.proofs.item.separated.Goals as goal

pub returns-then-not-starts : goal.returns-then-not-starts
returns-then-not-starts g c =
    whole (alike (λ v. c.new.result) (no_items g.R.Item.first g.R.Item.parts g.R.Item.may g.R.Item.between g.met.R.Item.begins c.args.tokens.now (λ s. not_true c.if-not-starts.true (c.starts.ensures.1 s))) (λ v. sym c.new.ensures))

pub returns-in_err-item : goal.returns-in_err-item
returns-in_err-item g c =
    let p = err_from_is_err_and c.from_residual.result c.from_residual.ensures.1 in
    rw (p.1, p.2) (stop_part g.R.Item.may c.in_err-item.field-0.0 (first_item g.R.Item.first g.R.Item.parts g.R.Item.may g.R.Item.between c.args.tokens.now (c.starts.ensures.0 c.if-not-starts.false)) c.in_err-item.ensures (items_meet g.R.Item.first g.R.Item.parts g.R.Item.may g.R.Item.between g.met.R.Item.is_part g.met.R.Item.follows) items_text)

pub list-init : goal.list-init
list-init g c =
    alike _
    (part (first_item g.R.Item.first g.R.Item.parts g.R.Item.may g.R.Item.between c.args.tokens.now (c.starts.ensures.0 c.if-not-starts.false))
    c.in_ok-item.ensures (items_meet g.R.Item.first g.R.Item.parts g.R.Item.may g.R.Item.between g.met.R.Item.is_part g.met.R.Item.follows))
    (λ v. ap (λ z. z ++ v) (sym c.in_ok-found.ensures))

pub returns-in_err-item-2 : goal.returns-in_err-item-2
returns-in_err-item-2 g c =
    let p = err_from_is_err_and c.from_residual-in_err-item-2.result c.from_residual-in_err-item-2.ensures.1 in
    rw (p.1, p.2)
    (stop_part g.R.Item.may c.in_err-item-2.field-0.0
    (sign
    (next_item g.R.Item.first g.R.Item.parts g.R.Item.may g.R.Item.between g.met.R.Item.is_part c.list.invariant
    (subst (λ x. Is x c.list.rest.now c.in-Some.after.now) c.mark.ensures c.in-Some.ensures))
    (subst (λ x. Is x c.list.rest.now c.in-Some.after.now) c.mark.ensures c.in-Some.ensures) (g.met.R.Item.level c.args.room))
    c.in_err-item-2.ensures (items_meet g.R.Item.first g.R.Item.parts g.R.Item.may g.R.Item.between g.met.R.Item.is_part g.met.R.Item.follows)
    items_text)

pub list-smaller : goal.list-smaller
list-smaller g c = omega (arith, sign_shorter c.in-Some.ensures, read_shorter c.in_ok-item-2.ensures)

pub list-preserved : goal.list-preserved
list-preserved g c =
    alike _
    (part
    (sign
    (next_item g.R.Item.first g.R.Item.parts g.R.Item.may g.R.Item.between g.met.R.Item.is_part c.list.invariant
    (subst (λ x. Is x c.list.rest.now c.in-Some.after.now) c.mark.ensures c.in-Some.ensures))
    (subst (λ x. Is x c.list.rest.now c.in-Some.after.now) c.mark.ensures c.in-Some.ensures) (g.met.R.Item.level c.args.room))
    c.in_ok-item-2.ensures (items_meet g.R.Item.first g.R.Item.parts g.R.Item.may g.R.Item.between g.met.R.Item.is_part g.met.R.Item.follows))
    (one_more _ _ _ c.in_ok-push.ensures.ok)

pub returns : goal.returns
returns g c =
    whole (alike _ (last_item g.R.Item.first g.R.Item.parts g.R.Item.may g.R.Item.between c.list.invariant (subst (λ x. Lacks x c.list.rest.now) c.mark.ensures c.in_default.ensures)) (λ v. append-nil _))
