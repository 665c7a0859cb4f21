-- The sites of a program: where a heap object is reached, made or downgraded, by their places in the order of the text.
--
-- A site is a heap read, a field write, a `new`, a `declassify` or an `endorse`. The place of a read or a write is
-- that of the object's name, that of the others the keyword's.
use Rattle.std.specs.Prelude.{ℕ, List, [], ◌∷◌, ◌++◌, Option, Some, None}
use Rattle.std.specs.List.{flat_map}
use Rattle.fab_tree.specs.declared.expression.Expression.{Expression, fold-Expression}
use Rattle.fab_tree.specs.declared.expression.Form.TheOpen as f
use Rattle.fab_tree.specs.declared.statement.Right.{Right}
use Rattle.fab_tree.specs.declared.statement.Right.TheVariants as rights
use Rattle.fab_tree.specs.declared.statement.Statement.{Statement, fold-Statement}
use Rattle.fab_tree.specs.declared.statement.Statement.TheOpen as s
use Rattle.fab_tree.specs.declared.program.Return.{Return}
use Rattle.fab_tree.specs.declared.program.Method.{Method}
use Rattle.fab_tree.specs.declared.program.Program.{Program}

-- these lists one behind the other
abbrev pub joined : List (List ℕ) → List ℕ
joined = flat_map (λ xs. xs)

abbrev pub in_form : f.Form-F (List ℕ) (List ℕ) (List ℕ) → List ℕ
in_form (f.Number n) = []
in_form f.Null = []
in_form (f.Local x) = []
in_form (f.Read x y) = x.at ∷ []
in_form (f.Unary x e) = e
in_form (f.Chain e others) = e ++ joined others
in_form (f.Compared e c g) = e ++ g

abbrev pub in_expression : Expression → List ℕ
in_expression = fold-Expression (List ℕ) (List ℕ) (List ℕ) in_form (λ e. e.form) (λ u. u.operand)

abbrev pub in_expressions : List Expression → List ℕ
in_expressions = flat_map in_expression

abbrev pub in_right : Right → List ℕ
in_right (rights.Plain e) = in_expression e
in_right (rights.Call x args) = in_expressions args
in_right (rights.New x y args at) = at ∷ in_expressions args
in_right (rights.Downgrade d e x y at) = at ∷ in_expression e

abbrev pub joined_other : Option (List (List ℕ)) → List ℕ
joined_other None = []
joined_other (Some xs) = joined xs

abbrev pub in_statement_step : s.Statement-F (List ℕ) → List ℕ
in_statement_step (s.Declare t x l e at) = in_expression e
in_statement_step (s.Assign x r) = in_right r
in_statement_step (s.Write x y e) = x.at ∷ in_expression e
in_statement_step (s.Call x args) = in_expressions args
in_statement_step (s.If e block otherwise) = in_expression e ++ joined block ++ joined_other otherwise
in_statement_step (s.While e block) = in_expression e ++ joined block
in_statement_step (s.Atomic x block otherwise at) = joined block ++ joined otherwise
in_statement_step (s.Fail at) = []

abbrev pub in_statement : Statement → List ℕ
in_statement = fold-Statement (List ℕ) in_statement_step

abbrev pub in_result : Option Return → List ℕ
in_result None = []
in_result (Some x) = in_expression x.value

abbrev pub in_method : Method → List ℕ
in_method m = flat_map in_statement m.body ++ in_result m.result

-- the place of each site
abbrev pub site_places : Program → List ℕ
site_places p = flat_map in_method p.methods
