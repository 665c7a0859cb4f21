-- How many locals and sites statements and expressions have, by their parts.
use Rattle.std.proofs.Common.{◌≡◌, ℕ, ◌+◌, ◌<◌, MatchOption, List, [], ◌∷◌, ◌++◌, map, length, Option, Some, None, refl, sym, ap, ◌∙◌, arith, length-append}
use Rattle.std.specs.List.{flat_map}
use Rattle.std.proofs.lemmas.List.Concat.{flat_map-cons}
use Rattle.fab_tree.specs.declared.name.Name.{Name}
use Rattle.fab_tree.specs.declared.expression.Comparison.{Comparison}
use Rattle.fab_tree.specs.declared.expression.Expression.{Expression, fold-roll-Expression, roll-out-Expression, out-Expression}
use Rattle.fab_tree.specs.declared.expression.Form.{Form, fold-roll-Form, fold-Form}
use Rattle.fab_tree.specs.declared.expression.Form.TheVariants as kinds
use Rattle.fab_tree.specs.declared.expression.Form.TheOpen as parts
use Rattle.fab_tree.specs.declared.expression.Operand.{Operand, fold-roll-Operand, fold-Operand, roll-out-Operand, out-Operand}
use Rattle.fab_tree.specs.declared.program.Parameter.{Parameter}
use Rattle.fab_tree.specs.declared.statement.Statement.{Statement, fold-roll-Statement}
use Rattle.fab_tree.specs.declared.statement.Statement.TheVariants as forms
use Rattle.fab_tree.specs.declared.statement.Statement.TheOpen as o
use Rattle.fab_tree.specs.Limits.{declared_in, declared_step}
use Rattle.fab_tree.specs.Sites.{joined, in_form, in_expression, in_statement, in_statement_step}

-- how many there are in a list of parts
abbrev pub in_all : {A B : Type 0} → (A → List B) → List A → ℕ
in_all f xs = length (flat_map f xs)

-- how many there are in parts that may not be there
abbrev pub in_some : {A B : Type 0} → (A → List B) → Option (List A) → ℕ
in_some f None = 0
in_some f (Some xs) = in_all f xs

flat : {A B : Type 0} (f : A → List B) (xs : List A) → flat_map (λ ps. ps) (map f xs) ≡ flat_map f xs
flat f [] = refl
flat f (x ∷ xs) = flat_map-cons (λ ps. ps) (f x) (map f xs) ∙ ap (λ l. f x ++ l) (flat f xs) ∙ sym (flat_map-cons f x xs)

flat_size : {A B : Type 0} (f : A → List B) (xs : List A) → length (flat_map (λ ps. ps) (map f xs)) ≡ in_all f xs
flat_size f xs = ap length (flat f xs)

-- ---- locals

locals_of_if : (e : Expression) (block : List Statement) (otherwise : Option (List Statement)) → length (declared_in (forms.If e block otherwise)) ≡ in_all declared_in block + in_some declared_in otherwise
locals_of_if e block None =
    ap length (ap declared_in (sym (forms.rolls-If e block None)) ∙ fold-roll-Statement (List Parameter) declared_step (o.If e block None)) ∙ omega (arith, flat_size declared_in block)
locals_of_if e block (Some other) =
    ap length (ap declared_in (sym (forms.rolls-If e block (Some other))) ∙ fold-roll-Statement (List Parameter) declared_step (o.If e block (Some other)))
    ∙ omega (arith, length-append (flat_map (λ ps. ps) (map declared_in block)) (flat_map (λ ps. ps) (map declared_in other)), flat_size declared_in block, flat_size declared_in other)

locals_of_while : (e : Expression) (block : List Statement) → length (declared_in (forms.While e block)) ≡ in_all declared_in block
locals_of_while e block =
    ap length (ap declared_in (sym (forms.rolls-While e block)) ∙ fold-roll-Statement (List Parameter) declared_step (o.While e block)) ∙ flat_size declared_in block

locals_of_atomic : (x : Name) (block other : List Statement) (at : ℕ) → length (declared_in (forms.Atomic x block other at)) ≡ in_all declared_in block + in_all declared_in other
locals_of_atomic x block other at =
    ap length (ap declared_in (sym (forms.rolls-Atomic x block other at)) ∙ fold-roll-Statement (List Parameter) declared_step (o.Atomic x block other at))
    ∙ omega (arith, length-append (flat_map (λ ps. ps) (map declared_in block)) (flat_map (λ ps. ps) (map declared_in other)), flat_size declared_in block, flat_size declared_in other)

-- ---- sites

sites_of_if : (e : Expression) (block : List Statement) (otherwise : Option (List Statement)) → length (in_statement (forms.If e block otherwise)) ≡ length (in_expression e) + in_all in_statement block + in_some in_statement otherwise
sites_of_if e block None =
    ap length (ap in_statement (sym (forms.rolls-If e block None)) ∙ fold-roll-Statement (List ℕ) in_statement_step (o.If e block None))
    ∙ omega (arith, length-append (in_expression e ++ flat_map (λ ps. ps) (map in_statement block)) [], length-append (in_expression e) (flat_map (λ ps. ps) (map in_statement block)), flat_size in_statement block)
sites_of_if e block (Some other) =
    ap length (ap in_statement (sym (forms.rolls-If e block (Some other))) ∙ fold-roll-Statement (List ℕ) in_statement_step (o.If e block (Some other)))
    ∙ omega (arith, length-append (in_expression e ++ flat_map (λ ps. ps) (map in_statement block)) (flat_map (λ ps. ps) (map in_statement other)), length-append (in_expression e) (flat_map (λ ps. ps) (map in_statement block)), flat_size in_statement block, flat_size in_statement other)

sites_of_while : (e : Expression) (block : List Statement) → length (in_statement (forms.While e block)) ≡ length (in_expression e) + in_all in_statement block
sites_of_while e block =
    ap length (ap in_statement (sym (forms.rolls-While e block)) ∙ fold-roll-Statement (List ℕ) in_statement_step (o.While e block))
    ∙ omega (arith, length-append (in_expression e) (flat_map (λ ps. ps) (map in_statement block)), flat_size in_statement block)

sites_of_atomic : (x : Name) (block other : List Statement) (at : ℕ) → length (in_statement (forms.Atomic x block other at)) ≡ in_all in_statement block + in_all in_statement other
sites_of_atomic x block other at =
    ap length (ap in_statement (sym (forms.rolls-Atomic x block other at)) ∙ fold-roll-Statement (List ℕ) in_statement_step (o.Atomic x block other at))
    ∙ omega (arith, length-append (flat_map (λ ps. ps) (map in_statement block)) (flat_map (λ ps. ps) (map in_statement other)), flat_size in_statement block, flat_size in_statement other)

module _ {x : Statement} (e : Expression) (block seen : List Statement) (same : seen ≡ block) where
  pub locals_in_if : (otherwise : Option (List Statement)) → x ≡ forms.If e block otherwise → length (declared_in x) ≡ in_all declared_in seen + in_some declared_in otherwise
  locals_in_if otherwise is = ap (λ w. length (declared_in w)) is ∙ locals_of_if e block otherwise ∙ ap (λ w. in_all declared_in w + in_some declared_in otherwise) (sym same)

  pub locals_in_while : x ≡ forms.While e block → length (declared_in x) ≡ in_all declared_in seen
  locals_in_while is = ap (λ w. length (declared_in w)) is ∙ locals_of_while e block ∙ ap (in_all declared_in) (sym same)

  pub sites_in_if : (otherwise : Option (List Statement)) → x ≡ forms.If e block otherwise → length (in_statement x) ≡ length (in_expression e) + in_all in_statement seen + in_some in_statement otherwise
  sites_in_if otherwise is = ap (λ w. length (in_statement w)) is ∙ sites_of_if e block otherwise ∙ ap (λ w. length (in_expression e) + in_all in_statement w + in_some in_statement otherwise) (sym same)

  pub sites_in_while : x ≡ forms.While e block → length (in_statement x) ≡ length (in_expression e) + in_all in_statement seen
  sites_in_while is = ap (λ w. length (in_statement w)) is ∙ sites_of_while e block ∙ ap (λ w. length (in_expression e) + in_all in_statement w) (sym same)

module _ {x : Statement} (y : Name) (at : ℕ) (block seen other : List Statement) (same : seen ≡ block) (is : x ≡ forms.Atomic y block other at) where
  pub locals_in_atomic : length (declared_in x) ≡ in_all declared_in seen + in_all declared_in other
  locals_in_atomic = ap (λ w. length (declared_in w)) is ∙ locals_of_atomic y block other at ∙ ap (λ w. in_all declared_in w + in_all declared_in other) (sym same)

  pub sites_in_atomic : length (in_statement x) ≡ in_all in_statement seen + in_all in_statement other
  sites_in_atomic = ap (λ w. length (in_statement w)) is ∙ sites_of_atomic y block other at ∙ ap (λ w. in_all in_statement w + in_all in_statement other) (sym same)

-- the other block, where it is there and where it isn't
pub other_there : {A B : Type 0} (f : A → List B) {o : Option (List A)} (xs seen : List A) → o ≡ Some xs → seen ≡ xs → in_some f o ≡ in_all f seen
other_there f xs seen is same = ap (in_some f) is ∙ ap (in_all f) (sym same)

pub other_none : {A B : Type 0} (f : A → List B) {o : Option (List A)} → o ≡ None → in_some f o ≡ 0
other_none f is = ap (in_some f) is

-- ---- sites of expressions

abbrev in_part : Form → List ℕ
in_part = fold-Form (List ℕ) (List ℕ) (List ℕ) in_form (λ e. e.form) (λ u. u.operand)

abbrev in_operand : Operand → List ℕ
in_operand = fold-Operand (List ℕ) (List ℕ) (List ℕ) in_form (λ e. e.form) (λ u. u.operand)

by_form : (x : Expression) → in_expression x ≡ in_part (out-Expression x).form
by_form x = ap in_expression (sym (roll-out-Expression x)) ∙ fold-roll-Expression (List ℕ) (List ℕ) (List ℕ) in_form (λ e. e.form) (λ u. u.operand) (out-Expression x)

by_operand : (x : Operand) → in_operand x ≡ in_expression (out-Operand x).operand
by_operand x = ap in_operand (sym (roll-out-Operand x)) ∙ fold-roll-Operand (List ℕ) (List ℕ) (List ℕ) in_form (λ e. e.form) (λ u. u.operand) (out-Operand x)

operands : (us : List Operand) → joined (map in_operand us) ≡ flat_map (λ u. in_expression (out-Operand u).operand) us
operands [] = refl
operands (u ∷ us) =
    flat_map-cons (λ xs. xs) (in_operand u) (map in_operand us)
    ∙ ap (λ l. l ++ joined (map in_operand us)) (by_operand u)
    ∙ ap (λ l. in_expression (out-Operand u).operand ++ l) (operands us)
    ∙ sym (flat_map-cons (λ u. in_expression (out-Operand u).operand) u us)

pub sites_of_chain : (x e : Expression) (us : List Operand) → (out-Expression x).form ≡ kinds.Chain e us → length (in_expression x) ≡ length (in_expression e) + length (flat_map (λ u. in_expression (out-Operand u).operand) us)
sites_of_chain x e us is =
    ap length (by_form x ∙ ap in_part is ∙ ap in_part (sym (kinds.rolls-Chain e us)) ∙ fold-roll-Form (List ℕ) (List ℕ) (List ℕ) in_form (λ e. e.form) (λ u. u.operand) (parts.Chain e us))
    ∙ length-append (in_expression e) (joined (map in_operand us))
    ∙ ap (λ l. length (in_expression e) + length l) (operands us)

pub sites_of_compared : (x e g : Expression) (c : Comparison) → (out-Expression x).form ≡ kinds.Compared e c g → length (in_expression x) ≡ length (in_expression e) + length (in_expression g)
sites_of_compared x e g c is =
    ap length (by_form x ∙ ap in_part is ∙ ap in_part (sym (kinds.rolls-Compared e c g)) ∙ fold-roll-Form (List ℕ) (List ℕ) (List ℕ) in_form (λ e. e.form) (λ u. u.operand) (parts.Compared e c g))
    ∙ length-append (in_expression e) (in_expression g)

-- ---- what is left

-- the sizes of an expression and operands, seen through a box and a slice
pub chain_seen : (e seen : Expression) (us also : List Operand) (all : ℕ) → seen ≡ e → also ≡ us → all ≡ length (in_expression e) + in_all (λ u. in_expression (out-Operand u).operand) us → all ≡ length (in_expression seen) + in_all (λ u. in_expression (out-Operand u).operand) also
chain_seen e seen us also all h k size = omega (arith, size, ap (λ w. length (in_expression w)) h, ap (in_all (λ u. in_expression (out-Operand u).operand)) k)

-- the sizes of two expressions, seen through two boxes
pub both_seen : (e g seen also : Expression) (all : ℕ) → seen ≡ e → also ≡ g → all ≡ length (in_expression e) + length (in_expression g) → all ≡ length (in_expression seen) + length (in_expression also)
both_seen e g seen also all h k size = omega (arith, size, ap (λ w. length (in_expression w)) h, ap (λ w. length (in_expression w)) k)

-- what is left after one part, and then after the other
pub after_both : (r : Option ℕ) (room left n k all : ℕ) → left + n ≡ room → all ≡ n + k → MatchOption r (left < k) (λ x. x + k ≡ left) → MatchOption r (room < all) (λ x. x + all ≡ room)
after_both None room left n k all e f h = omega arith
after_both (Some x) room left n k all e f h = omega arith

-- the same room by another name
pub after_one : (r : Option ℕ) (room n all : ℕ) → all ≡ n → MatchOption r (room < n) (λ x. x + n ≡ room) → MatchOption r (room < all) (λ x. x + all ≡ room)
after_one None room n all f h = omega arith
after_one (Some x) room n all f h = omega arith
