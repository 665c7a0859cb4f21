-- The canonical text of a bundle.
--
-- A text is made of tokens and of blanks between them. What is printed for a tree is put in front of what follows: so `f >> g` is f and then g.
use Rattle.std.specs.Prelude.{ℕ, ◌+◌, ◌*◌, ◌/◌, ◌%◌, ◌==◌, Bool, true, false, nat_lt, if◌then◌else◌, pos, negsuc, List, [], ◌∷◌, ◌++◌, map, replicate, Option, Some, None, codes}
use Rattle.std.specs.List.{flat_map}
use Rattle.std.specs.Fmt.{decimal, digit_glyph}
use Rattle.fab_base.specs.declared.token.Mark.{Mark}
use Rattle.fab_base.specs.declared.token.Mark.TheVariants as m
use Rattle.fab_base.specs.declared.token.Kind.{Kind}
use Rattle.fab_base.specs.declared.token.Kind.TheVariants as k
use Rattle.fab_base.specs.Tokens.{mark_text}
use Rattle.fab_tree.specs.declared.name.Name.{Name}
use Rattle.fab_tree.specs.declared.declaration.Role.{Role}
use Rattle.fab_tree.specs.declared.declaration.Role.TheVariants as r
use Rattle.fab_tree.specs.declared.declaration.Node.{Node}
use Rattle.fab_tree.specs.declared.declaration.Delegation.{Delegation}
use Rattle.fab_tree.specs.declared.declaration.Aspect.{Aspect}
use Rattle.fab_tree.specs.declared.declaration.Aspect.TheVariants as aspects
use Rattle.fab_tree.specs.declared.declaration.PolicyText.{PolicyText}
use Rattle.fab_tree.specs.declared.declaration.LabelText.{LabelText}
use Rattle.fab_tree.specs.declared.declaration.Sort.{Sort}
use Rattle.fab_tree.specs.declared.declaration.Sort.TheVariants as sorts
use Rattle.fab_tree.specs.declared.declaration.Field.{Field}
use Rattle.fab_tree.specs.declared.declaration.Class.{Class}
use Rattle.fab_tree.specs.declared.expression.Operator.{Operator}
use Rattle.fab_tree.specs.declared.expression.Operator.TheVariants as operators
use Rattle.fab_tree.specs.declared.expression.Comparison.{Comparison}
use Rattle.fab_tree.specs.declared.expression.Comparison.TheVariants as comparisons
use Rattle.fab_tree.specs.declared.expression.Expression.{Expression, fold-Expression}
use Rattle.fab_tree.specs.declared.expression.Form.TheOpen as f
use Rattle.fab_tree.specs.declared.expression.Number.{Number}
use Rattle.fab_tree.specs.declared.expression.Number.TheVariants as numbers
use Rattle.fab_tree.specs.declared.statement.Downgrade.{Downgrade}
use Rattle.fab_tree.specs.declared.statement.Downgrade.TheVariants as downgrades
use Rattle.fab_tree.specs.declared.statement.Right.{Right}
use Rattle.fab_tree.specs.declared.statement.Right.TheVariants as rights
use Rattle.fab_tree.specs.declared.statement.Statement.{Statement, fold-Statement}
use Rattle.fab_tree.specs.declared.statement.Statement.TheOpen as s
use Rattle.fab_tree.specs.declared.program.Parameter.{Parameter}
use Rattle.fab_tree.specs.declared.program.Returns.{Returns}
use Rattle.fab_tree.specs.declared.program.Return.{Return}
use Rattle.fab_tree.specs.declared.program.Method.{Method}
use Rattle.fab_tree.specs.declared.program.Program.{Program}
use Rattle.fab_tree.specs.declared.event.PostLine.{PostLine}
use Rattle.fab_tree.specs.declared.event.CrashLine.{CrashLine}
use Rattle.fab_tree.specs.declared.event.Step.{Step}
use Rattle.fab_tree.specs.declared.event.Step.TheVariants as steps
use Rattle.fab_tree.specs.declared.event.Event.{Event}
use Rattle.fab_tree.specs.declared.event.Event.TheVariants as events
use Rattle.fab_tree.specs.declared.start.Literal.{Literal}
use Rattle.fab_tree.specs.declared.start.Literal.TheVariants as literals
use Rattle.fab_tree.specs.declared.start.Given.{Given}
use Rattle.fab_tree.specs.declared.start.Root.{Root}
use Rattle.fab_tree.specs.declared.start.RequestText.{RequestText}
use Rattle.fab_tree.specs.declared.start.Session.{Session}
use Rattle.fab_tree.specs.declared.start.Start.{Start}
use Rattle.fab_tree.specs.Marks.{unary_mark, width_mark}

-- ---- tokens and blanks

pub data Ink : Type 0 where
  token : Kind → Ink
  blank : List ℕ → Ink

-- bytes as digits to the base 16, two for each
abbrev pub digits_of : List ℕ → List ℕ
digits_of = flat_map (λ b. digit_glyph false (b / 16) ∷ digit_glyph false (b % 16) ∷ [])

-- how a token is spelled
abbrev pub kind_text : Kind → List ℕ
kind_text (k.Name x) = x
kind_text (k.Number n) = decimal n
kind_text k.Least = codes "2147483648"
kind_text (k.Bytes bs) = 34 ∷ digits_of bs ++ 34 ∷ []
kind_text (k.Fixed x) = mark_text x

abbrev pub ink_text : Ink → List ℕ
ink_text (token x) = kind_text x
ink_text (blank bs) = bs

abbrev pub text_of : List Ink → List ℕ
text_of = flat_map ink_text

-- what is put in front of what follows
abbrev pub Inks : Type 0
Inks = List Ink → List Ink

infixr 10 ◌>>◌
abbrev pub ◌>>◌ : Inks → Inks → Inks
(x >> y) more = x (y more)

abbrev pub nothing : Inks
nothing more = more

abbrev pub mark : Mark → Inks
mark x more = token (k.Fixed x) ∷ more

abbrev pub name : Name → Inks
name x more = token (k.Name x.text) ∷ more

-- a number, which may be the one that only stands behind a minus sign
abbrev pub number : ℕ → Inks
number n more = token (if n == 2147483648 then k.Least else k.Number n) ∷ more

abbrev pub space : Inks
space more = blank (codes " ") ∷ more

abbrev pub line_end : Inks
line_end more = blank (10 ∷ []) ∷ more

-- two spaces for each level
abbrev pub indent : ℕ → Inks
indent n more = blank (replicate (2 * n) 32) ∷ more

-- a line of its own at a level
abbrev pub line : ℕ → Inks → Inks
line n x = indent n >> x >> line_end

-- these one behind the other
abbrev pub all : List Inks → Inks
all [] = nothing
all (x ∷ xs) = x >> all xs

-- each behind a mark and a space
abbrev pub each_behind : Mark → List Inks → Inks
each_behind x [] = nothing
each_behind x (y ∷ ys) = mark x >> space >> y >> each_behind x ys

-- a mark and a space between two
abbrev pub separated : Mark → List Inks → Inks
separated x [] = nothing
separated x (y ∷ ys) = y >> each_behind x ys

abbrev pub in_brackets : Inks → Inks
in_brackets x = mark m.LeftParen >> x >> mark m.RightParen

-- ---- declarations

abbrev pub machine : Bool → Mark → Inks
machine false x = mark x
machine true x = mark m.Hostile >> space >> mark x

abbrev pub role : Role → Inks
role r.Principal = mark m.Principal
role (r.Worker hostile) = machine hostile m.Worker
role (r.Store hostile) = machine hostile m.Store

abbrev pub node : Node → Inks
node x = line 0 (role x.role >> space >> name x.name >> mark m.Semicolon)

abbrev pub delegation : Delegation → Inks
delegation x = line 0 (name x.actor >> space >> mark m.ActsFor >> space >> name x.principal >> mark m.Semicolon)

abbrev pub aspect : Aspect → Inks
aspect aspects.Confidentiality = mark m.Arrow
aspect aspects.Integrity = mark m.BackArrow

-- names behind a space, where there are any
abbrev pub spaced_names : List Name → Inks
spaced_names [] = nothing
spaced_names (x ∷ xs) = space >> separated m.Comma (map name (x ∷ xs))

abbrev pub policy : PolicyText → Inks
policy x = name x.owner >> space >> aspect x.aspect >> spaced_names x.others

abbrev pub label : LabelText → Inks
label x =
    line 0 (mark m.Label >> space >> name x.name >> space >> mark m.Equal >> space
    >> mark m.LeftBrace >> separated m.Semicolon (map policy x.policies) >> mark m.RightBrace >> mark m.Semicolon)

abbrev pub sort : Sort → Inks
sort (sorts.Number w) = mark (width_mark w)
sort (sorts.Class x) = name x

abbrev pub field : Field → Inks
field x = sort x.sort >> space >> name x.name >> mark m.Semicolon >> space

abbrev pub class : Class → Inks
class x =
    line 0 (mark m.Class >> space >> name x.name >> space >> mark m.Label >> space >> name x.label >> space
    >> mark m.Access >> space >> name x.access >> space
    >> mark m.LeftBrace >> space >> all (map field x.fields) >> mark m.RightBrace)

-- ---- expressions

-- What is shown of an expression: the level at which its form stands in the grammar, and its text without brackets
-- round it. The levels are 0 for `|`, 1 for `&`, 2 for comparisons, 3 for sums, 4 for products, 5 for signs before
-- an operand, and 6.
pub record Shown : Type 0 where
  pub level : ℕ
  pub inks : Inks

-- at a place that allows this level and those above it: in brackets exactly where the form stands lower
abbrev pub at_level : ℕ → Shown → Inks
at_level n x = if nat_lt x.level n then in_brackets x.inks else x.inks

abbrev pub operator : Operator → Inks
operator operators.Or = mark m.Bar
operator operators.And = mark m.And
operator operators.Add = mark m.Plus
operator operators.Subtract = mark m.Minus
operator operators.Multiply = mark m.Star
operator operators.Divide = mark m.Slash

abbrev pub level_of : Operator → ℕ
level_of operators.Or = 0
level_of operators.And = 1
level_of operators.Add = 3
level_of operators.Subtract = 3
level_of operators.Multiply = 4
level_of operators.Divide = 4

abbrev pub comparison : Comparison → Inks
comparison comparisons.Equal = mark m.EqualEqual
comparison comparisons.NotEqual = mark m.NotEqual
comparison comparisons.Less = mark m.Less
comparison comparisons.LessEqual = mark m.LessEqual
comparison comparisons.Greater = mark m.Greater
comparison comparisons.GreaterEqual = mark m.GreaterEqual

-- an operator and the operand behind it
pub record ShownOperand : Type 0 where
  pub operator : Operator
  pub operand : Shown

-- the operands behind the first, each at the level above that of its operator
abbrev pub operands : List ShownOperand → Inks
operands [] = nothing
operands (u ∷ us) = space >> operator u.operator >> space >> at_level (level_of u.operator + 1) u.operand >> operands us

-- a chain stands at the level of its first operator
abbrev pub shown_chain : Shown → List ShownOperand → Shown
shown_chain x [] = x
shown_chain x (u ∷ us) =
    record { level = level_of u.operator; inks = at_level (level_of u.operator + 1) x >> operands (u ∷ us) }

-- a number with its sign, which is one before an operand
abbrev pub integer : Number → Inks
integer (numbers.Int (pos n)) = number n
integer (numbers.Int (negsuc n)) = mark m.Minus >> number (n + 1)

abbrev pub number_level : Number → ℕ
number_level (numbers.Int (pos n)) = 6
number_level (numbers.Int (negsuc n)) = 5

abbrev pub shown_number : Number → Shown
shown_number n = record { level = number_level n; inks = integer n }

abbrev pub shown_form : f.Form-F Shown Shown ShownOperand → Shown
shown_form (f.Number n) = shown_number n
shown_form f.Null = record { level = 6; inks = mark m.Null }
shown_form (f.Local x) = record { level = 6; inks = name x }
shown_form (f.Read x y) = record { level = 6; inks = name x >> mark m.Dot >> name y }
shown_form (f.Unary o x) = record { level = 5; inks = mark (unary_mark o) >> at_level 6 x }
shown_form (f.Chain x others) = shown_chain x others
shown_form (f.Compared x c y) =
    record { level = 2; inks = at_level 3 x >> space >> comparison c >> space >> at_level 3 y }

abbrev pub shown : Expression → Shown
shown =
    fold-Expression Shown Shown ShownOperand shown_form (λ e. e.form)
    (λ u. record { operator = u.operator; operand = u.operand })

-- an expression where the grammar has one
abbrev pub expression : Expression → Inks
expression e = at_level 0 (shown e)

abbrev pub arguments : List Expression → Inks
arguments es = in_brackets (separated m.Comma (map expression es))

-- ---- statements

abbrev pub downgrade : Downgrade → Inks
downgrade downgrades.Declassify = mark m.Declassify
downgrade downgrades.Endorse = mark m.Endorse

abbrev pub right : Right → Inks
right (rights.Plain e) = expression e
right (rights.Call x es) = name x >> arguments es
right (rights.New x y es at) = mark m.New >> space >> name x >> space >> mark m.At >> space >> name y >> space >> arguments es
right (rights.Downgrade d e x y at) =
    downgrade d >> mark m.LeftParen >> expression e >> mark m.Comma >> space >> name x >> space
    >> mark m.To >> space >> name y >> mark m.RightParen

-- statements in braces; the closing one stands in a line at this level
abbrev pub block : ℕ → List (ℕ → Inks) → Inks
block n xs = mark m.LeftBrace >> line_end >> all (map (λ x. x (n + 1)) xs) >> indent n >> mark m.RightBrace

abbrev pub else_block : ℕ → List (ℕ → Inks) → Inks
else_block n xs = space >> mark m.Else >> space >> block n xs

abbrev pub otherwise : ℕ → Option (List (ℕ → Inks)) → Inks
otherwise n None = nothing
otherwise n (Some xs) = else_block n xs

-- a condition in brackets behind its keyword
abbrev pub head : Mark → Expression → Inks
head x e = mark x >> space >> in_brackets (expression e) >> space

abbrev pub statement_step : s.Statement-F (ℕ → Inks) → ℕ → Inks
statement_step (s.Declare t x l e at) n =
    line n (sort t >> space >> name x >> space >> mark m.Colon >> space >> name l >> space
    >> mark m.Equal >> space >> expression e >> mark m.Semicolon)
statement_step (s.Assign x r) n = line n (name x >> space >> mark m.Equal >> space >> right r >> mark m.Semicolon)
statement_step (s.Write x y e) n =
    line n (name x >> mark m.Dot >> name y >> space >> mark m.Equal >> space >> expression e >> mark m.Semicolon)
statement_step (s.Call x es) n = line n (name x >> arguments es >> mark m.Semicolon)
statement_step (s.If e xs ys) n = line n (head m.If e >> block n xs >> otherwise n ys)
statement_step (s.While e xs) n = line n (head m.While e >> block n xs)
statement_step (s.Atomic x xs ys at) n = line n (mark m.Atomic >> space >> name x >> space >> block n xs >> else_block n ys)
statement_step (s.Fail at) n = line n (mark m.Fail >> mark m.Semicolon)

abbrev pub statement : Statement → ℕ → Inks
statement = fold-Statement (ℕ → Inks) statement_step

-- ---- methods and programs

abbrev pub parameter : Parameter → Inks
parameter x = sort x.sort >> space >> name x.name >> space >> mark m.Colon >> space >> name x.label

abbrev pub returns : Option Returns → Inks
returns None = nothing
returns (Some x) = mark m.Returns >> space >> sort x.sort >> space >> mark m.Colon >> space >> name x.label >> space

abbrev pub fails : Bool → Inks
fails false = nothing
fails true = space >> mark m.Fails

abbrev pub authority : List Name → Inks
authority [] = nothing
authority (x ∷ xs) = space >> mark m.Authority >> spaced_names (x ∷ xs)

abbrev pub result : Option Return → Inks
result None = nothing
result (Some x) = line 1 (mark m.Return >> space >> expression x.value >> mark m.Semicolon)

abbrev pub method : Method → Inks
method x =
    line 0 (mark m.Method >> space >> name x.name >> in_brackets (separated m.Comma (map parameter x.parameters)) >> space
    >> returns x.returns >> mark m.Begin >> space >> name x.begin >> fails x.fails >> authority x.authority >> space
    >> mark m.LeftBrace >> line_end >> all (map (λ y. statement y 1) x.body) >> result x.result >> mark m.RightBrace)

abbrev pub program : Program → Inks
program x =
    all (map node x.nodes) >> all (map delegation x.delegations) >> all (map label x.labels)
    >> all (map class x.classes) >> all (map method x.methods)

-- ---- runs

abbrev pub literal : Literal → Inks
literal (literals.Number n) = integer n
literal literals.Null = mark m.Null
literal (literals.Root x) = name x

abbrev pub values : List Given → Inks
values xs = in_brackets (separated m.Comma (map (λ x. literal x.literal) xs))

abbrev pub root : Root → Inks
root x =
    line 1 (mark m.Root >> space >> name x.name >> space >> mark m.Colon >> space >> name x.class >> space
    >> mark m.At >> space >> name x.store >> space >> values x.values >> mark m.Semicolon)

abbrev pub request : RequestText → Inks
request x = line 2 (name x.method >> values x.arguments >> mark m.Semicolon)

abbrev pub session : Session → Inks
session x =
    line 1 (mark m.Session >> space >> name x.worker >> space
    >> mark m.LeftBrace >> line_end >> all (map request x.requests) >> indent 1 >> mark m.RightBrace)

abbrev pub bytes : List ℕ → Inks
bytes bs more = token (k.Bytes bs) ∷ more

abbrev pub post : PostLine → Inks
post x =
    line 1 (mark m.Post >> space >> name x.sender >> space >> mark m.Arrow >> space >> name x.receiver >> space
    >> bytes x.bytes >> mark m.Semicolon)

abbrev pub keep : Option ℕ → Inks
keep None = nothing
keep (Some n) = space >> mark m.Keep >> space >> number n

abbrev pub crash : CrashLine → Inks
crash x =
    line 1 (mark m.Crash >> space >> name x.node >> space >> mark m.After >> space >> number x.after
    >> keep x.keep >> mark m.Semicolon)

-- a cache of 0 leaves no line
abbrev pub cache : ℕ → Inks
cache n = if n == 0 then nothing else line 1 (mark m.Cache >> space >> number n >> mark m.Semicolon)

abbrev pub step : Step → Inks
step (steps.Begin x) = mark m.Begin >> space >> name x
step (steps.Resume x) = mark m.Resume >> space >> name x
step (steps.Deliver x y) = mark m.Deliver >> space >> name x >> space >> name y
step (steps.Idle x y) = mark m.Idle >> space >> name x >> space >> name y
step (steps.Recover x) = mark m.Recover >> space >> name x

abbrev pub event : Event → Inks
event (events.Step x) = step x
event (events.CrashIn n x) = mark m.CrashIn >> space >> number n >> space >> step x
event (events.Post x) = mark m.Post >> space >> name x
event (events.Crash x) = mark m.Crash >> space >> name x

-- a schedule without events leaves no line
abbrev pub schedule : List Event → Inks
schedule [] = nothing
schedule (x ∷ xs) =
    line 1 (mark m.Schedule >> space >> mark m.LeftBrace >> line_end
    >> all (map (λ y. line 2 (event y >> mark m.Semicolon)) (x ∷ xs)) >> indent 1 >> mark m.RightBrace)

abbrev pub start : Start → Inks
start x =
    program x.program
    >> line 0 (mark m.Run >> space >> mark m.LeftBrace >> line_end
    >> all (map root x.roots) >> all (map session x.sessions) >> all (map post x.posts) >> all (map crash x.crashes)
    >> cache x.cache >> schedule x.schedule >> mark m.RightBrace)

-- the canonical text
abbrev pub canonical : Start → List ℕ
canonical x = text_of (start x [])
