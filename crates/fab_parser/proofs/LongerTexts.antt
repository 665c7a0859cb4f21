-- Whatever stands behind a text, it stands for the same.
use Rattle.std.proofs.Common.{ℕ, Bool, List, ◌++◌, Option}
use Rattle.fab_base.specs.declared.token.Mark.{Mark}
use Rattle.fab_base.specs.declared.token.Token.{Token}
use Rattle.fab_tree.specs.declared.name.Name.{Name}
use Rattle.fab_tree.specs.declared.declaration.Role.{Role}
use Rattle.fab_tree.specs.declared.declaration.Node.{Node}
use Rattle.fab_tree.specs.declared.declaration.Delegation.{Delegation}
use Rattle.fab_tree.specs.declared.declaration.Aspect.{Aspect}
use Rattle.fab_tree.specs.declared.declaration.PolicyText.{PolicyText}
use Rattle.fab_tree.specs.declared.declaration.LabelText.{LabelText}
use Rattle.fab_tree.specs.declared.declaration.Sort.{Sort}
use Rattle.fab_tree.specs.declared.declaration.Field.{Field}
use Rattle.fab_tree.specs.declared.declaration.Class.{Class}
use Rattle.fab_tree.specs.declared.expression.Level.{Level}
use Rattle.fab_tree.specs.declared.expression.Operator.{Operator}
use Rattle.fab_tree.specs.declared.expression.Comparison.{Comparison}
use Rattle.fab_tree.specs.declared.expression.Expression.{Expression}
use Rattle.fab_tree.specs.declared.expression.Number.{Number}
use Rattle.fab_tree.specs.declared.expression.Operand.{Operand}
use Rattle.fab_tree.specs.declared.statement.Downgrade.{Downgrade}
use Rattle.fab_tree.specs.declared.statement.Right.{Right}
use Rattle.fab_tree.specs.declared.statement.Statement.{Statement}
use Rattle.fab_tree.specs.declared.program.Parameter.{Parameter}
use Rattle.fab_tree.specs.declared.program.Returns.{Returns}
use Rattle.fab_tree.specs.declared.program.Return.{Return}
use Rattle.fab_tree.specs.declared.program.Method.{Method}
use Rattle.fab_tree.specs.Lists.{Is, is, IsName, name, IsNumeral, numeral, IsNumber, int, IsLeast, least_int, Repeated, no_more, one_more, Behind, behind, Perhaps, without, with_it, Separated, none, some}
use Rattle.fab_tree.specs.Declarations.{IsMachine, IsRole, IsNode, IsDelegation, IsAspect, IsPolicy, IsLabel, IsSort, IsField, IsClass}
use Rattle.fab_tree.specs.Declarations as declared
use Rattle.fab_tree.specs.Expressions.{IsComparison, IsOperator, IsChain, IsOthers, IsOperand, IsCompared, IsUnary, IsPrimary}
use Rattle.fab_tree.specs.Expressions as ex
use Rattle.fab_tree.specs.Statements.{IsDowngrade, IsRight, IsStatement, IsOtherwise, IsBlock, IsStatements}
use Rattle.fab_tree.specs.Statements as st
use Rattle.fab_tree.specs.Programs.{IsParameter, IsReturns, IsFails, IsAuthority, IsReturn, IsResult, IsMethod}
use Rattle.fab_tree.specs.Programs as pr

module _ (c : List Token) where
  longer_is : {mark : Mark} {a b : List Token} → Is mark a b → Is mark (a ++ c) (b ++ c)
  longer_is (is e) = is e

  longer_name : {a : List Token} {t : Name} {b : List Token} → IsName a t b → IsName (a ++ c) t (b ++ c)
  longer_name (name e) = name e

  longer_numeral : {a : List Token} {t : ℕ} {b : List Token} → IsNumeral a t b → IsNumeral (a ++ c) t (b ++ c)
  longer_numeral (numeral e h) = numeral e h

  longer_number : {a : List Token} {t : Number} {b : List Token} → IsNumber a t b → IsNumber (a ++ c) t (b ++ c)
  longer_number (int p0) = int (longer_numeral p0)

  longer_least : {a : List Token} {t : Number} {b : List Token} → IsLeast a t b → IsLeast (a ++ c) t (b ++ c)
  longer_least (least_int e) = least_int e

  pub longer_repeated : {A : Type 0} {P : List Token → A → List Token → Type 0} → ((a : List Token) (t : A) (b : List Token) → P a t b → P (a ++ c) t (b ++ c)) → {a : List Token} {t : List A} {b : List Token} → Repeated P a t b → Repeated P (a ++ c) t (b ++ c)
  longer_repeated item no_more = no_more
  longer_repeated item (one_more p q) = one_more (item _ _ _ p) (longer_repeated item q)

  longer_behind : {A : Type 0} {P : List Token → A → List Token → Type 0} {mark : Mark} → ((a : List Token) (t : A) (b : List Token) → P a t b → P (a ++ c) t (b ++ c)) → {a : List Token} {t : A} {b : List Token} → Behind mark P a t b → Behind mark P (a ++ c) t (b ++ c)
  longer_behind item (behind i p) = behind (longer_is i) (item _ _ _ p)

  longer_perhaps : {A : Type 0} {P : List Token → A → List Token → Type 0} {mark : Mark} → ((a : List Token) (t : A) (b : List Token) → P a t b → P (a ++ c) t (b ++ c)) → {a : List Token} {t : Option A} {b : List Token} → Perhaps mark P a t b → Perhaps mark P (a ++ c) t (b ++ c)
  longer_perhaps item without = without
  longer_perhaps item (with_it i p) = with_it (longer_is i) (item _ _ _ p)

  longer_separated : {A : Type 0} {P : List Token → A → List Token → Type 0} {mark : Mark} → ((a : List Token) (t : A) (b : List Token) → P a t b → P (a ++ c) t (b ++ c)) → {a : List Token} {t : List A} {b : List Token} → Separated mark P a t b → Separated mark P (a ++ c) t (b ++ c)
  longer_separated item none = none
  longer_separated item (some p q) = some (item _ _ _ p) (longer_repeated (λ x t y. longer_behind item) q)

  longer_machine : {h : Bool} {a : List Token} {t : Role} {b : List Token} → IsMachine h a t b → IsMachine h (a ++ c) t (b ++ c)
  longer_machine (declared.worker p0) = declared.worker (longer_is p0)
  longer_machine (declared.store p0) = declared.store (longer_is p0)

  longer_role : {a : List Token} {t : Role} {b : List Token} → IsRole a t b → IsRole (a ++ c) t (b ++ c)
  longer_role (declared.principal p0) = declared.principal (longer_is p0)
  longer_role (declared.honest p0) = declared.honest (longer_machine p0)
  longer_role (declared.hostile p0 p1) = declared.hostile (longer_is p0) (longer_machine p1)

  pub longer_node : {a : List Token} {t : Node} {b : List Token} → IsNode a t b → IsNode (a ++ c) t (b ++ c)
  longer_node (declared.node p0 p1 p2) = declared.node (longer_role p0) (longer_name p1) (longer_is p2)

  pub longer_delegation : {a : List Token} {t : Delegation} {b : List Token} → IsDelegation a t b → IsDelegation (a ++ c) t (b ++ c)
  longer_delegation (declared.delegation p0 p1 p2 p3) = declared.delegation (longer_name p0) (longer_is p1) (longer_name p2) (longer_is p3)

  longer_aspect : {a : List Token} {t : Aspect} {b : List Token} → IsAspect a t b → IsAspect (a ++ c) t (b ++ c)
  longer_aspect (declared.readers p0) = declared.readers (longer_is p0)
  longer_aspect (declared.writers p0) = declared.writers (longer_is p0)

  longer_policy : {a : List Token} {t : PolicyText} {b : List Token} → IsPolicy a t b → IsPolicy (a ++ c) t (b ++ c)
  longer_policy (declared.policy p0 p1 p2) = declared.policy (longer_name p0) (longer_aspect p1) (longer_separated (λ x t y. longer_name) p2)

  pub longer_label : {a : List Token} {t : LabelText} {b : List Token} → IsLabel a t b → IsLabel (a ++ c) t (b ++ c)
  longer_label (declared.label p0 p1 p2 p3 p4 p5 p6) = declared.label (longer_is p0) (longer_name p1) (longer_is p2) (longer_is p3) (longer_separated (λ x t y. longer_policy) p4) (longer_is p5) (longer_is p6)

  longer_sort : {a : List Token} {t : Sort} {b : List Token} → IsSort a t b → IsSort (a ++ c) t (b ++ c)
  longer_sort (declared.number {w = w} p0) = declared.number {w = w} (longer_is p0)
  longer_sort (declared.class p0) = declared.class (longer_name p0)

  longer_field : {a : List Token} {t : Field} {b : List Token} → IsField a t b → IsField (a ++ c) t (b ++ c)
  longer_field (declared.field p0 p1 p2) = declared.field (longer_sort p0) (longer_name p1) (longer_is p2)

  pub longer_class : {a : List Token} {t : Class} {b : List Token} → IsClass a t b → IsClass (a ++ c) t (b ++ c)
  longer_class (declared.class p0 p1 p2 p3 p4 p5 p6 p7 p8) = declared.class (longer_is p0) (longer_name p1) (longer_is p2) (longer_name p3) (longer_is p4) (longer_name p5) (longer_is p6) (longer_repeated (λ x t y. longer_field) p7) (longer_is p8)

  longer_comparison : {a : List Token} {t : Comparison} {b : List Token} → IsComparison a t b → IsComparison (a ++ c) t (b ++ c)
  longer_comparison (ex.equal p0) = ex.equal (longer_is p0)
  longer_comparison (ex.not_equal p0) = ex.not_equal (longer_is p0)
  longer_comparison (ex.less p0) = ex.less (longer_is p0)
  longer_comparison (ex.less_equal p0) = ex.less_equal (longer_is p0)
  longer_comparison (ex.greater p0) = ex.greater (longer_is p0)
  longer_comparison (ex.greater_equal p0) = ex.greater_equal (longer_is p0)

  longer_operator : {l : Level} {a : List Token} {t : Operator} {b : List Token} → IsOperator l a t b → IsOperator l (a ++ c) t (b ++ c)
  longer_operator (ex.bar p0) = ex.bar (longer_is p0)
  longer_operator (ex.ampersand p0) = ex.ampersand (longer_is p0)
  longer_operator (ex.plus p0) = ex.plus (longer_is p0)
  longer_operator (ex.dash p0) = ex.dash (longer_is p0)
  longer_operator (ex.star p0) = ex.star (longer_is p0)
  longer_operator (ex.slash p0) = ex.slash (longer_is p0)

  mutual
    longer_chain : {l : Level} {a : List Token} {t : Expression} {b : List Token} → IsChain l a t b → IsChain l (a ++ c) t (b ++ c)
    longer_chain (ex.chain p0 p1) = ex.chain (longer_operand p0) (longer_others p1)

    longer_others : {l : Level} {a : List Token} {t : List Operand} {b : List Token} → IsOthers l a t b → IsOthers l (a ++ c) t (b ++ c)
    longer_others ex.no_other = ex.no_other
    longer_others (ex.one_other p0 p1 p2) = ex.one_other (longer_operator p0) (longer_operand p1) (longer_others p2)

    longer_operand : {l : Level} {a : List Token} {t : Expression} {b : List Token} → IsOperand l a t b → IsOperand l (a ++ c) t (b ++ c)
    longer_operand (ex.of_or p0) = ex.of_or (longer_chain p0)
    longer_operand (ex.of_and p0) = ex.of_and (longer_compared p0)
    longer_operand (ex.of_sum p0) = ex.of_sum (longer_chain p0)
    longer_operand (ex.of_product p0) = ex.of_product (longer_unary p0)

    longer_compared : {a : List Token} {t : Expression} {b : List Token} → IsCompared a t b → IsCompared (a ++ c) t (b ++ c)
    longer_compared (ex.alone p0) = ex.alone (longer_chain p0)
    longer_compared (ex.compared p0 p1 p2) = ex.compared (longer_chain p0) (longer_comparison p1) (longer_chain p2)

    longer_unary : {a : List Token} {t : Expression} {b : List Token} → IsUnary a t b → IsUnary (a ++ c) t (b ++ c)
    longer_unary (ex.primary p0) = ex.primary (longer_primary p0)
    longer_unary (ex.signed {x = x} p0 p1) = ex.signed {x = x} (longer_is p0) (longer_primary p1)
    longer_unary (ex.least p0 p1) = ex.least (longer_is p0) (longer_least p1)

    longer_primary : {a : List Token} {t : Expression} {b : List Token} → IsPrimary a t b → IsPrimary (a ++ c) t (b ++ c)
    longer_primary (ex.number p0) = ex.number (longer_number p0)
    longer_primary (ex.null p0) = ex.null (longer_is p0)
    longer_primary (ex.local p0) = ex.local (longer_name p0)
    longer_primary (ex.read p0 p1 p2) = ex.read (longer_name p0) (longer_is p1) (longer_name p2)
    longer_primary (ex.brackets p0 p1 p2) = ex.brackets (longer_is p0) (longer_chain p1) (longer_is p2)

  longer_downgrade : {a : List Token} {t : Downgrade} {b : List Token} → IsDowngrade a t b → IsDowngrade (a ++ c) t (b ++ c)
  longer_downgrade (st.declassify p0) = st.declassify (longer_is p0)
  longer_downgrade (st.endorse p0) = st.endorse (longer_is p0)

  longer_right : {a : List Token} {t : Right} {b : List Token} → IsRight a t b → IsRight (a ++ c) t (b ++ c)
  longer_right (st.plain p0) = st.plain (longer_chain p0)
  longer_right (st.call p0 p1 p2 p3) = st.call (longer_name p0) (longer_is p1) (longer_separated (λ x t y. longer_chain) p2) (longer_is p3)
  longer_right (st.new p0 p1 p2 p3 p4 p5 p6) = st.new (longer_is p0) (longer_name p1) (longer_is p2) (longer_name p3) (longer_is p4) (longer_separated (λ x t y. longer_chain) p5) (longer_is p6)
  longer_right (st.downgrade p0 p1 p2 p3 p4 p5 p6 p7) = st.downgrade (longer_downgrade p0) (longer_is p1) (longer_chain p2) (longer_is p3) (longer_name p4) (longer_is p5) (longer_name p6) (longer_is p7)

  mutual
    longer_statement : {a : List Token} {t : Statement} {b : List Token} → IsStatement a t b → IsStatement (a ++ c) t (b ++ c)
    longer_statement (st.declare p0 p1 p2 p3 p4 p5 p6) = st.declare (longer_sort p0) (longer_name p1) (longer_is p2) (longer_name p3) (longer_is p4) (longer_chain p5) (longer_is p6)
    longer_statement (st.assign p0 p1 p2 p3) = st.assign (longer_name p0) (longer_is p1) (longer_right p2) (longer_is p3)
    longer_statement (st.write p0 p1 p2 p3 p4 p5) = st.write (longer_name p0) (longer_is p1) (longer_name p2) (longer_is p3) (longer_chain p4) (longer_is p5)
    longer_statement (st.call p0 p1 p2 p3 p4) = st.call (longer_name p0) (longer_is p1) (longer_separated (λ x t y. longer_chain) p2) (longer_is p3) (longer_is p4)
    longer_statement (st.choice p0 p1 p2 p3 p4 p5) = st.choice (longer_is p0) (longer_is p1) (longer_chain p2) (longer_is p3) (longer_block p4) (longer_otherwise p5)
    longer_statement (st.loop p0 p1 p2 p3 p4) = st.loop (longer_is p0) (longer_is p1) (longer_chain p2) (longer_is p3) (longer_block p4)
    longer_statement (st.atomic p0 p1 p2 p3 p4) = st.atomic (longer_is p0) (longer_name p1) (longer_block p2) (longer_is p3) (longer_block p4)
    longer_statement (st.fail p0 p1) = st.fail (longer_is p0) (longer_is p1)

    longer_otherwise : {a : List Token} {t : Option (List Statement)} {b : List Token} → IsOtherwise a t b → IsOtherwise (a ++ c) t (b ++ c)
    longer_otherwise st.no_else = st.no_else
    longer_otherwise (st.some_else p0 p1) = st.some_else (longer_is p0) (longer_block p1)

    longer_block : {a : List Token} {t : List Statement} {b : List Token} → IsBlock a t b → IsBlock (a ++ c) t (b ++ c)
    longer_block (st.block p0 p1 p2) = st.block (longer_is p0) (longer_statements p1) (longer_is p2)

    longer_statements : {a : List Token} {t : List Statement} {b : List Token} → IsStatements a t b → IsStatements (a ++ c) t (b ++ c)
    longer_statements st.no_statement = st.no_statement
    longer_statements (st.one_statement p0 p1) = st.one_statement (longer_statement p0) (longer_statements p1)

  longer_parameter : {a : List Token} {t : Parameter} {b : List Token} → IsParameter a t b → IsParameter (a ++ c) t (b ++ c)
  longer_parameter (pr.parameter p0 p1 p2 p3) = pr.parameter (longer_sort p0) (longer_name p1) (longer_is p2) (longer_name p3)

  longer_returns : {a : List Token} {t : Returns} {b : List Token} → IsReturns a t b → IsReturns (a ++ c) t (b ++ c)
  longer_returns (pr.returns p0 p1 p2) = pr.returns (longer_sort p0) (longer_is p1) (longer_name p2)

  longer_fails : {a : List Token} {t : Bool} {b : List Token} → IsFails a t b → IsFails (a ++ c) t (b ++ c)
  longer_fails pr.safe = pr.safe
  longer_fails (pr.fails p0) = pr.fails (longer_is p0)

  longer_authority : {a : List Token} {t : List Name} {b : List Token} → IsAuthority a t b → IsAuthority (a ++ c) t (b ++ c)
  longer_authority pr.nobody = pr.nobody
  longer_authority (pr.authority p0 p1 p2) = pr.authority (longer_is p0) (longer_name p1) (longer_repeated (λ x t y. longer_behind (λ x t y. longer_name)) p2)

  longer_return : {a : List Token} {t : Return} {b : List Token} → IsReturn a t b → IsReturn (a ++ c) t (b ++ c)
  longer_return (pr.return_ p0 p1 p2) = pr.return_ (longer_is p0) (longer_chain p1) (longer_is p2)

  longer_result : {a : List Token} {t : Option Return} {b : List Token} → IsResult a t b → IsResult (a ++ c) t (b ++ c)
  longer_result pr.no_result = pr.no_result
  longer_result (pr.result p0) = pr.result (longer_return p0)

  pub longer_method : {a : List Token} {t : Method} {b : List Token} → IsMethod a t b → IsMethod (a ++ c) t (b ++ c)
  longer_method (pr.method p0 p1 p2 p3 p4 p5 p6 p7 p8 p9 p10 p11 p12 p13) =
      pr.method (longer_is p0) (longer_name p1) (longer_is p2) (longer_separated (λ x t y. longer_parameter) p3) (longer_is p4)
      (longer_perhaps (λ x t y. longer_returns) p5) (longer_is p6) (longer_name p7) (longer_fails p8) (longer_authority p9) (longer_is p10)
      (longer_repeated (λ x t y. longer_statement) p11) (longer_result p12) (longer_is p13)
