-- The sites of methods with numbers for names, in the order of the text: the number of each, and its place.
use Rattle.std.specs.Prelude.{ℕ, List, [], ◌∷◌, ◌++◌, Option, Some, None}
use Rattle.std.specs.List.{flat_map}
use Rattle.fab_tree.specs.declared.resolved.Expression.{Expression, fold-Expression}
use Rattle.fab_tree.specs.declared.resolved.Form.TheOpen as f
use Rattle.fab_tree.specs.declared.resolved.Right.{Right}
use Rattle.fab_tree.specs.declared.resolved.Right.TheVariants as rights
use Rattle.fab_tree.specs.declared.resolved.Statement.{Statement, fold-Statement}
use Rattle.fab_tree.specs.declared.resolved.Statement.TheOpen as s
use Rattle.fab_tree.specs.declared.resolved.Return.{Return}
use Rattle.fab_tree.specs.declared.resolved.Method.{Method}

abbrev pub Sites : Type 0
Sites = List (ℕ × ℕ)

abbrev pub all_of : List Sites → Sites
all_of = flat_map (λ xs. xs)

-- a read stands at its object's name
abbrev pub of_form : f.Form-F Sites Sites Sites → Sites
of_form (f.Number n) = []
of_form f.Null = []
of_form (f.Local x) = []
of_form (f.Read x field site) = (site, x.at) ∷ []
of_form (f.Unary o e) = e
of_form (f.Chain e others) = e ++ all_of others
of_form (f.Compared e c g) = e ++ g

abbrev pub of_expression : Expression → Sites
of_expression = fold-Expression Sites Sites Sites of_form (λ e. e.form) (λ u. u.operand)

abbrev pub of_expressions : List Expression → Sites
of_expressions = flat_map of_expression

-- a new object and a downgrade stand at their keywords
abbrev pub of_right : Right → Sites
of_right (rights.Plain e) = of_expression e
of_right (rights.Call x es) = of_expressions es
of_right (rights.New x y es site at) = (site, at) ∷ of_expressions es
of_right (rights.Downgrade d e x y site at) = (site, at) ∷ of_expression e

-- a write stands at its object's name
abbrev pub of_statement_step : s.Statement-F Sites → Sites
of_statement_step (s.Assign x r at) = of_right r
of_statement_step (s.Write x field e site) = (site, x.at) ∷ of_expression e
of_statement_step (s.Call x es) = of_expressions es
of_statement_step (s.If e block otherwise) = of_expression e ++ all_of block ++ all_of otherwise
of_statement_step (s.While e block) = of_expression e ++ all_of block
of_statement_step (s.Atomic x block otherwise at) = all_of block ++ all_of otherwise
of_statement_step (s.Fail at) = []

abbrev pub of_statement : Statement → Sites
of_statement = fold-Statement Sites of_statement_step

abbrev pub of_result : Option Return → Sites
of_result None = []
of_result (Some x) = of_expression x.value

abbrev pub of_method : Method → Sites
of_method m = flat_map of_statement m.body ++ of_result m.result

abbrev pub of_methods : List Method → Sites
of_methods = flat_map of_method
