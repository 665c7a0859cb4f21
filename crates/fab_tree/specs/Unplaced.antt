-- A bundle without the places in its text: two bundles that differ in places alone are one without them.
use Rattle.std.specs.Prelude.{List, map, option_map}
use Rattle.fab_tree.specs.declared.name.Name.{Name}
use Rattle.fab_tree.specs.declared.declaration.Node.{Node}
use Rattle.fab_tree.specs.declared.declaration.Delegation.{Delegation}
use Rattle.fab_tree.specs.declared.declaration.PolicyText.{PolicyText}
use Rattle.fab_tree.specs.declared.declaration.LabelText.{LabelText}
use Rattle.fab_tree.specs.declared.declaration.Sort.{Sort}
use Rattle.fab_tree.specs.declared.declaration.Sort.TheVariants as sorts
use Rattle.fab_tree.specs.declared.declaration.Field.{Field}
use Rattle.fab_tree.specs.declared.declaration.Class.{Class}
use Rattle.fab_tree.specs.declared.expression.Expression.{Expression, fold-Expression}
use Rattle.fab_tree.specs.declared.expression.Form.{Form}
use Rattle.fab_tree.specs.declared.expression.Form.TheVariants as forms
use Rattle.fab_tree.specs.declared.expression.Form.TheOpen as f
use Rattle.fab_tree.specs.declared.expression.Operand.{Operand}
use Rattle.fab_tree.specs.declared.statement.Right.{Right}
use Rattle.fab_tree.specs.declared.statement.Right.TheVariants as rights
use Rattle.fab_tree.specs.declared.statement.Statement.{Statement, fold-Statement}
use Rattle.fab_tree.specs.declared.statement.Statement.TheVariants as statements
use Rattle.fab_tree.specs.declared.statement.Statement.TheOpen as s
use Rattle.fab_tree.specs.declared.program.Parameter.{Parameter}
use Rattle.fab_tree.specs.declared.program.Returns.{Returns}
use Rattle.fab_tree.specs.declared.program.Return.{Return}
use Rattle.fab_tree.specs.declared.program.Method.{Method}
use Rattle.fab_tree.specs.declared.program.Program.{Program}
use Rattle.fab_tree.specs.declared.event.PostLine.{PostLine}
use Rattle.fab_tree.specs.declared.event.CrashLine.{CrashLine}
use Rattle.fab_tree.specs.declared.event.Step.{Step}
use Rattle.fab_tree.specs.declared.event.Step.TheVariants as steps
use Rattle.fab_tree.specs.declared.event.Event.{Event}
use Rattle.fab_tree.specs.declared.event.Event.TheVariants as events
use Rattle.fab_tree.specs.declared.start.Literal.{Literal}
use Rattle.fab_tree.specs.declared.start.Literal.TheVariants as literals
use Rattle.fab_tree.specs.declared.start.Given.{Given}
use Rattle.fab_tree.specs.declared.start.Root.{Root}
use Rattle.fab_tree.specs.declared.start.RequestText.{RequestText}
use Rattle.fab_tree.specs.declared.start.Session.{Session}
use Rattle.fab_tree.specs.declared.start.Start.{Start}
use Rattle.fab_tree.specs.Expressions.{expression_at, operand_at}

abbrev pub name : Name → Name
name x = record { text = x.text; at = 0 }

abbrev pub names : List Name → List Name
names = map name

abbrev pub node : Node → Node
node x = record { role = x.role; name = name x.name }

abbrev pub delegation : Delegation → Delegation
delegation x = record { actor = name x.actor; principal = name x.principal }

abbrev pub policy : PolicyText → PolicyText
policy x = record { owner = name x.owner; aspect = x.aspect; others = names x.others }

abbrev pub label : LabelText → LabelText
label x = record { name = name x.name; policies = map policy x.policies }

abbrev pub sort : Sort → Sort
sort (sorts.Number w) = sorts.Number w
sort (sorts.Class x) = sorts.Class (name x)

abbrev pub field : Field → Field
field x = record { sort = sort x.sort; name = name x.name }

abbrev pub class : Class → Class
class x = record { name = name x.name; label = name x.label; access = name x.access; fields = map field x.fields }

abbrev pub form_step : f.Form-F Form Expression Operand → Form
form_step (f.Number n) = forms.Number n
form_step f.Null = forms.Null
form_step (f.Local x) = forms.Local (name x)
form_step (f.Read x y) = forms.Read (name x) (name y)
form_step (f.Unary x e) = forms.Unary x e
form_step (f.Chain e others) = forms.Chain e others
form_step (f.Compared e c g) = forms.Compared e c g

abbrev pub expression : Expression → Expression
expression =
    fold-Expression Form Expression Operand form_step (λ e. expression_at 0 e.form) (λ u. operand_at 0 u.operator u.operand)

abbrev pub expressions : List Expression → List Expression
expressions = map expression

abbrev pub right : Right → Right
right (rights.Plain e) = rights.Plain (expression e)
right (rights.Call x es) = rights.Call (name x) (expressions es)
right (rights.New x y es at) = rights.New (name x) (name y) (expressions es) 0
right (rights.Downgrade d e x y at) = rights.Downgrade d (expression e) (name x) (name y) 0

abbrev pub statement_step : s.Statement-F Statement → Statement
statement_step (s.Declare t x l e at) = statements.Declare (sort t) (name x) (name l) (expression e) 0
statement_step (s.Assign x r) = statements.Assign (name x) (right r)
statement_step (s.Write x y e) = statements.Write (name x) (name y) (expression e)
statement_step (s.Call x es) = statements.Call (name x) (expressions es)
statement_step (s.If e xs ys) = statements.If (expression e) xs ys
statement_step (s.While e xs) = statements.While (expression e) xs
statement_step (s.Atomic x xs ys at) = statements.Atomic (name x) xs ys 0
statement_step (s.Fail at) = statements.Fail 0

abbrev pub statement : Statement → Statement
statement = fold-Statement Statement statement_step

abbrev pub parameter : Parameter → Parameter
parameter x = record { sort = sort x.sort; name = name x.name; label = name x.label }

abbrev pub returns : Returns → Returns
returns x = record { sort = sort x.sort; label = name x.label }

abbrev pub result : Return → Return
result x = record { value = expression x.value; at = 0 }

abbrev pub method : Method → Method
method x =
    record {
      name = name x.name;
      parameters = map parameter x.parameters;
      returns = option_map returns x.returns;
      begin = name x.begin;
      fails = x.fails;
      authority = names x.authority;
      body = map statement x.body;
      result = option_map result x.result;
    }

abbrev pub program : Program → Program
program x =
    record {
      nodes = map node x.nodes;
      delegations = map delegation x.delegations;
      labels = map label x.labels;
      classes = map class x.classes;
      methods = map method x.methods;
    }

abbrev pub literal : Literal → Literal
literal (literals.Number n) = literals.Number n
literal literals.Null = literals.Null
literal (literals.Root x) = literals.Root (name x)

abbrev pub given : Given → Given
given x = record { literal = literal x.literal; at = 0 }

abbrev pub root : Root → Root
root x = record { name = name x.name; class = name x.class; store = name x.store; values = map given x.values }

abbrev pub request : RequestText → RequestText
request x = record { method = name x.method; arguments = map given x.arguments }

abbrev pub session : Session → Session
session x = record { worker = name x.worker; requests = map request x.requests }

abbrev pub post : PostLine → PostLine
post x = record { sender = name x.sender; receiver = name x.receiver; bytes = x.bytes }

abbrev pub crash : CrashLine → CrashLine
crash x = record { node = name x.node; after = x.after; keep = x.keep }

abbrev pub step : Step → Step
step (steps.Begin x) = steps.Begin (name x)
step (steps.Resume x) = steps.Resume (name x)
step (steps.Deliver x y) = steps.Deliver (name x) (name y)
step (steps.Idle x y) = steps.Idle (name x) (name y)
step (steps.Recover x) = steps.Recover (name x)

abbrev pub event : Event → Event
event (events.Step x) = events.Step (step x)
event (events.CrashIn n x) = events.CrashIn n (step x)
event (events.Post x) = events.Post (name x)
event (events.Crash x) = events.Crash (name x)

-- the whole bundle
abbrev pub unplaced : Start → Start
unplaced x =
    record {
      program = program x.program;
      roots = map root x.roots;
      sessions = map session x.sessions;
      posts = map post x.posts;
      crashes = map crash x.crashes;
      cache = x.cache;
      schedule = map event x.schedule;
    }
