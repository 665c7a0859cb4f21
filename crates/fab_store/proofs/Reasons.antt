-- Reasons to refuse: names of earlier lists, transactions that bar a name, and three lists of reasons in a row.
use Rattle.std.proofs.Common.{◌≡◌, Bool, true, false, ◌||◌, List, [], ◌∷◌, ◌++◌, map, append_assoc, append-nil}
use Rattle.std.proofs.Common.{Option, refl, sym, ap, ◌∙◌, subst}
use Rattle.std.specs.List.{list_any}
use Rattle.std.specs.Option.{option_map}
use Rattle.fab_base.specs.declared.object.Oid.{Oid}
use Rattle.fab_base.specs.declared.object.Tid.{Tid}
use Rattle.fab_base.specs.declared.message.Items.{Items}
use Rattle.fab_base.specs.declared.message.Answer.{Answer}
use Rattle.fab_base.specs.declared.message.Answer.TheVariants.{Yes, Locked}
use Rattle.fab_base.specs.FlatMap.{is_same, is_among}
use Rattle.fab_protocol.specs.Stores.{Prepared, Item, item_name, reads_in, writes_in, first_of}
use Rattle.fab_protocol.proofs.Locks.{among_both}
use Rattle.fab_locks.specs.Conflicts.{bars, first_barring}
use Rattle.fab_locks.proofs.Barring.{list_any-map}
use Rattle.fab_store.specs.Refusals.{IsFirstOf, or_else, barred}

-- ---- names of earlier lists

by_names : (o : Oid) (is : List Item) → is_among o (map item_name is) ≡ list_any (λ i. is_same (item_name i) o) is
by_names o is = list_any-map (λ p. is_same p o) item_name is

pub among_reads : (o : Oid) (items : Items) → is_among o (map item_name (reads_in items)) ≡ list_any (λ r. is_same r.0 o) items.reads
among_reads o items = by_names o (reads_in items) ∙ list_any-map (λ i. is_same (item_name i) o) _ items.reads

among_writes : (o : Oid) (items : Items) → is_among o (map item_name (writes_in items)) ≡ list_any (λ w. is_same w.0 o) items.writes
among_writes o items = by_names o (writes_in items) ∙ list_any-map (λ i. is_same (item_name i) o) _ items.writes

pub among_either : (o : Oid) (items : Items) → is_among o (map item_name (reads_in items ++ writes_in items)) ≡ (list_any (λ r. is_same r.0 o) items.reads || list_any (λ w. is_same w.0 o) items.writes)
among_either o items = among_both o (reads_in items) (writes_in items) ∙ (λ i. among_reads o items i || among_writes o items i)

-- ---- the first reason

abbrev Reason : Type 0
Reason = Bool × Answer

-- the first transaction that bars a name
pub first_barred : (o : Oid) (writing : Bool) (ps : List Prepared) → IsFirstOf (barred o writing ps) (option_map Locked (first_barring o writing ps))
first_barred o writing [] = λ more. refl
first_barred o writing (p ∷ ps) = by_test (first_barred o writing ps) (bars o writing p.1) refl
  where
    by_test : IsFirstOf (barred o writing ps) (option_map Locked (first_barring o writing ps)) → (b : Bool) → bars o writing p.1 ≡ b
        → IsFirstOf (barred o writing (p ∷ ps)) (option_map Locked (first_barring o writing (p ∷ ps)))
    by_test rest true e = λ more. rw e refl
    by_test rest false e = λ more. rw e (rest more)

-- ---- lists of reasons

-- before whatever follows, all come to what is left
pub record Left (all rest : List Reason) : Type 0 where
  pub same : (more : List Reason) → first_of (all ++ more) ≡ first_of (rest ++ more)

-- three lists, one behind the other
pub in_three : (xs ys zs : List Reason) (a b c : Option Answer) → IsFirstOf xs a → IsFirstOf ys b → IsFirstOf zs c
    → first_of ((xs ++ ys) ++ zs) ≡ or_else a (or_else b (or_else c Yes))
in_three xs ys zs a b c f g h =
    ap first_of (append_assoc xs ys zs)
    ∙ f (ys ++ zs)
    ∙ ap (or_else a) (g zs)
    ∙ ap (λ l. or_else a (or_else b (first_of l))) (sym (append-nil zs))
    ∙ ap (λ w. or_else a (or_else b w)) (h [])

-- ---- of a store

pub barred_where : (o : Oid) (writing : Bool) (ps qs : List Prepared) (r : Option Tid) → ps ≡ qs → r ≡ first_barring o writing ps
    → IsFirstOf (barred o writing qs) (option_map Locked r)
barred_where o writing ps qs r same is = subst (λ l. IsFirstOf (barred o writing l) (option_map Locked r)) same
    (subst (λ t. IsFirstOf (barred o writing ps) (option_map Locked t)) (sym is) (first_barred o writing ps))
