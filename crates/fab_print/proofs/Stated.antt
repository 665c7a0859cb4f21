-- What is printed for statements with blocks.
use Rattle.std.proofs.Common.{◌≡◌, ℕ, suc, ◌+◌, ◌<◌, List, ◌∷◌, ◌++◌, map, drop, length, get_or, drop-cons, add-one, sym, ap, ◌∙◌, subst}
use Rattle.std.specs.Prelude.{Option, Some, None, option_map, Result, Ok, Err, OnOk}
use Rattle.fab_tree.specs.declared.name.Name.{Name}
use Rattle.fab_tree.specs.declared.expression.Expression.{Expression}
use Rattle.fab_tree.specs.declared.statement.Statement.{Statement, roll-Statement, map-Statement, fold-roll-Statement}
use Rattle.fab_tree.specs.declared.statement.Statement.TheVariants as s
use Rattle.fab_tree.specs.declared.statement.Statement.TheOpen as o
use Rattle.fab_base.specs.declared.token.Mark.TheVariants as m
use Rattle.fab_tree.specs.Print.{Ink, Inks, text_of, all, statement, statement_step, line_end, else_block}
use Rattle.fab_print.specs.Adding.{Adds, atomic, guarded, ended}
use Rattle.fab_print.proofs.Added.{both}

-- ---- statements

of_form : (e : o.Statement-F Statement) (x : Statement) → roll-Statement e ≡ x → statement x ≡ statement_step (map-Statement Statement (ℕ → Inks) statement e)
of_form e x h = ap statement (sym h) ∙ fold-roll-Statement (ℕ → Inks) statement_step e

pub if_stated : (e : Expression) (us : List Statement) (ws : Option (List Statement)) → statement (s.If e us ws) ≡ statement_step (o.If e (map statement us) (option_map (map statement) ws))
if_stated e us None = of_form (o.If e us None) _ (s.rolls-If e us None)
if_stated e us (Some ws) = of_form (o.If e us (Some ws)) _ (s.rolls-If e us (Some ws))

-- a choice without another block, and one with it
pub without_other : (t : Statement) (e : Expression) (us : List Statement) (w : Option (List Statement)) (n : ℕ) {a b c : List ℕ}
    → t ≡ s.If e us w → w ≡ None → Adds (guarded n m.If e (map statement us)) a b → Adds line_end b c → Adds (statement t n) a c
without_other t e us w n {a = a} {c = c} is none h k =
    subst (λ (z : Statement). Adds (statement z n) a c) (sym (is ∙ ap (s.If e us) none))
    (subst (λ (z : ℕ → Inks). Adds (z n) a c) (sym (if_stated e us None)) (both h k))

pub with_other : (t : Statement) (e : Expression) (us : List Statement) (w : Option (List Statement)) (ws : List Statement) (n : ℕ) {a b c : List ℕ}
    → t ≡ s.If e us w → w ≡ Some ws → Adds (guarded n m.If e (map statement us)) a b
    → Adds (ended (else_block n (map statement ws))) b c → Adds (statement t n) a c
with_other t e us w ws n {a = a} {c = c} is some h k =
    subst (λ (z : Statement). Adds (statement z n) a c) (sym (is ∙ ap (s.If e us) some))
    (subst (λ (z : ℕ → Inks). Adds (z n) a c) (sym (if_stated e us (Some ws))) (both h k))

-- an atomic block with the other
pub atomic_with : (t : Statement) (x : Name) (us ws : List Statement) (at n : ℕ) {a b c : List ℕ}
    → t ≡ s.Atomic x us ws at → Adds (atomic n x (map statement us)) a b
    → Adds (ended (else_block n (map statement ws))) b c → Adds (statement t n) a c
atomic_with t x us ws at n {a = a} {c = c} is h k =
    subst (λ (z : Statement). Adds (statement z n) a c) (sym is)
    (subst (λ (z : ℕ → Inks). Adds (z n) a c) (sym (of_form (o.Atomic x us ws at) _ (s.rolls-Atomic x us ws at))) (both h k))

-- one more statement of a block
pub one_more : (n i : ℕ) (xs : List Statement) (x : Statement) {b c : List ℕ} → i < length xs → x ≡ get_or xs i x → Adds (statement x n) b c → (more : List Ink)
    → c ++ text_of (all (map (λ y. statement y n) (drop (i + 1) xs)) more) ≡ b ++ text_of (all (map (λ y. statement y n) (drop i xs)) more)
one_more n i xs x {b = b} lt is h more =
    let e : drop i xs ≡ x ∷ drop (i + 1) xs = drop-cons xs i x lt ∙ ap (λ y. y ∷ drop (suc i) xs) (sym is) ∙ ap (λ k. x ∷ drop k xs) (sym (add-one i)) in
    h.grows (all (map (λ y. statement y n) (drop (i + 1) xs)) more) ∙ ap (λ l. b ++ text_of (all (map (λ y. statement y n) l) more)) (sym e)

-- what a call that may fail adds, where it doesn't
pub passed : {A E P Q : Type 0} (r : Result A E) → (P → Q) → OnOk r P → OnOk r Q
passed (Ok x) f h = f h
passed (Err x) f h = h
