-- The numbers that stand in a bundle, as values: those of its program, and whatever the fields of roots begin with and requests give.
use Rattle.std.specs.Prelude.{FitsSigned, List, [], ◌∷◌, ◌++◌, map, Option, Some, None}
use Rattle.std.specs.Int.{w32}
use Rattle.std.specs.List.{AllByRecursion, flat_map}
use Rattle.fab_base.specs.declared.object.Value.{Value}
use Rattle.fab_base.specs.declared.object.Value.TheVariants as values
use Rattle.fab_tree.specs.declared.resolved.Expression.{Expression, fold-Expression}
use Rattle.fab_tree.specs.declared.resolved.Form.TheOpen as f
use Rattle.fab_tree.specs.declared.resolved.Right.{Right}
use Rattle.fab_tree.specs.declared.resolved.Right.TheVariants as rights
use Rattle.fab_tree.specs.declared.resolved.Statement.{Statement, fold-Statement}
use Rattle.fab_tree.specs.declared.resolved.Statement.TheOpen as s
use Rattle.fab_tree.specs.declared.resolved.Return.{Return}
use Rattle.fab_tree.specs.declared.resolved.Method.{Method}
use Rattle.fab_tree.specs.declared.resolved.Session.{Session}
use Rattle.fab_tree.specs.declared.resolved.Resolved.{Resolved}
use Rattle.fab_tree.specs.Numbers.{number_value}

-- a number fits its width; nothing is said of other values
abbrev pub IsSmall : Value → Type 0
IsSmall (values.Int n) = FitsSigned w32 n
IsSmall values.Null = Unit {0}
IsSmall (values.Ref o) = Unit {0}

-- so does each of these
abbrev pub AllFit : List Value → Type 0
AllFit vs = AllByRecursion IsSmall vs

abbrev pub all_of : List (List Value) → List Value
all_of [] = []
all_of (ns ∷ nss) = ns ++ all_of nss

abbrev pub in_form : f.Form-F (List Value) (List Value) (List Value) → List Value
in_form (f.Number n) = number_value n ∷ []
in_form f.Null = []
in_form (f.Local x) = []
in_form (f.Read x field site) = []
in_form (f.Unary o e) = e
in_form (f.Chain e others) = e ++ all_of others
in_form (f.Compared e comparison g) = e ++ g

abbrev pub in_expression : Expression → List Value
in_expression = fold-Expression (List Value) (List Value) (List Value) in_form (λ e. e.form) (λ u. u.operand)

abbrev pub in_expressions : List Expression → List Value
in_expressions es = all_of (map in_expression es)

abbrev pub in_right : Right → List Value
in_right (rights.Plain e) = in_expression e
in_right (rights.Call x es) = in_expressions es
in_right (rights.New x y es site at) = in_expressions es
in_right (rights.Downgrade d e x y site at) = in_expression e

abbrev pub in_statement_step : s.Statement-F (List Value) → List Value
in_statement_step (s.Assign x r at) = in_right r
in_statement_step (s.Write x field e site) = in_expression e
in_statement_step (s.Call x es) = in_expressions es
in_statement_step (s.If e block otherwise) = in_expression e ++ all_of block ++ all_of otherwise
in_statement_step (s.While e block) = in_expression e ++ all_of block
in_statement_step (s.Atomic x block otherwise at) = all_of block ++ all_of otherwise
in_statement_step (s.Fail at) = []

abbrev pub in_statement : Statement → List Value
in_statement = fold-Statement (List Value) in_statement_step

abbrev pub in_block : List Statement → List Value
in_block xs = all_of (map in_statement xs)

abbrev pub in_result : Option Return → List Value
in_result None = []
in_result (Some x) = in_expression x.value

abbrev pub in_method : Method → List Value
in_method m = in_block m.body ++ in_result m.result

abbrev pub in_session : Session → List Value
in_session x = flat_map (λ a. a.request.args) x.requests

abbrev pub values_of : Resolved → List Value
values_of r = flat_map in_method r.methods ++ flat_map (λ x. x.values) r.roots ++ flat_map in_session r.sessions
