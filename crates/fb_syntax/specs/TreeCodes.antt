-- The codes of the plain trees, by which a tree may be the value of a model.
use Rattle.std.specs.Prelude.{◌≡◌, ℕ, zero, suc, Bool, true, false, ℤ, pos, negsuc, List, [], ◌∷◌, Option, Some, None, refl}
use Rattle.std.proofs.Common.{sym, ap, ◌∙◌}
use Rattle.std.specs.Coded.{Coded, code_by, coded_list, coded×}
use base.Stored.{Gv, gnil, gnum, gcons}
use Rattle.fb_base.specs.declared.kind.Kind.{Kind}
use Rattle.fb_base.specs.declared.kind.Kind.TheVariants as kind
use Rattle.fb_base.specs.declared.operator.Op2.{Op2}
use Rattle.fb_base.specs.declared.operator.Op2.TheVariants as op
use Rattle.fb_syntax.specs.Trees.{Expression, IntLiteral, TextLiteral, BoolLiteral, Variable, ListLiteral, Length, ItemAt, Negative, Not, Comparison, Chain, Conjunction, Disjunction, Injected, InjectedOn, Expressions, NoExpressions, AndExpressions, Links, NoLinks, AndLinks}
use Rattle.fb_syntax.specs.Trees.{Statement, Let, Assign, If, IfElse, Repeat, For, Break, Return, Fail, Call, Assert, Statements, NoStatements, AndStatements, Handlers, NoHandlers, AndHandlers}
use Rattle.fb_syntax.specs.Trees.{Parameter, MethodTree, ServiceTree, ServicesTree, TestTree}

-- ---- the parts: each is stored so, and read back

abbrev stored_number : Gv → ℕ
stored_number (gnum n) = n
stored_number _ = 0

abbrev store_bytes : List ℕ → Gv
store_bytes [] = gnil
store_bytes (b ∷ bytes) = gcons (gnum b) (store_bytes bytes)

abbrev bytes_of : Gv → List ℕ
bytes_of (gcons b bytes) = stored_number b ∷ bytes_of bytes
bytes_of _ = []

pub bytes_back : (bytes : List ℕ) → bytes_of (store_bytes bytes) ≡ bytes
bytes_back [] = refl
bytes_back (b ∷ bytes) = ap (λ bs. b ∷ bs) (bytes_back bytes)

abbrev store_name : Option (List ℕ) → Gv
store_name None = gnil
store_name (Some name) = gcons gnil (store_bytes name)

abbrev stored_name : Gv → Option (List ℕ)
stored_name (gcons _ name) = Some (bytes_of name)
stored_name _ = None

pub name_back : (name : Option (List ℕ)) → stored_name (store_name name) ≡ name
name_back None = refl
name_back (Some name) = ap Some (bytes_back name)

abbrev store_int : ℤ → Gv
store_int (pos n) = gcons gnil (gnum n)
store_int (negsuc n) = gnum n

abbrev int_of : Gv → ℤ
int_of (gcons _ n) = pos (stored_number n)
int_of n = negsuc (stored_number n)

pub int_back : (n : ℤ) → int_of (store_int n) ≡ n
int_back (pos n) = refl
int_back (negsuc n) = refl

abbrev store_bool : Bool → Gv
store_bool false = gnil
store_bool true = gnum 0

abbrev bool_of : Gv → Bool
bool_of gnil = false
bool_of _ = true

pub bool_back : (b : Bool) → bool_of (store_bool b) ≡ b
bool_back false = refl
bool_back true = refl

abbrev store_kind : Kind → Gv
store_kind kind.Int = gnum 0
store_kind kind.Bool = gnum 1
store_kind kind.Text = gnum 2
store_kind kind.Ints = gnum 3
store_kind kind.Bools = gnum 4
store_kind kind.Texts = gnum 5

abbrev kind_at : ℕ → Kind
kind_at zero = kind.Int
kind_at (suc zero) = kind.Bool
kind_at (suc (suc zero)) = kind.Text
kind_at (suc (suc (suc zero))) = kind.Ints
kind_at (suc (suc (suc (suc zero)))) = kind.Bools
kind_at _ = kind.Texts

abbrev kind_of : Gv → Kind
kind_of g = kind_at (stored_number g)

pub kind_back : (k : Kind) → kind_of (store_kind k) ≡ k
kind_back kind.Int = refl
kind_back kind.Bool = refl
kind_back kind.Text = refl
kind_back kind.Ints = refl
kind_back kind.Bools = refl
kind_back kind.Texts = refl

abbrev store_op : Op2 → Gv
store_op op.Add = gnum 0
store_op op.Sub = gnum 1
store_op op.Mul = gnum 2
store_op op.Div = gnum 3
store_op op.Rem = gnum 4
store_op op.Eq = gnum 5
store_op op.Ne = gnum 6
store_op op.Lt = gnum 7
store_op op.Le = gnum 8
store_op op.Gt = gnum 9
store_op op.Ge = gnum 10
store_op op.Join = gnum 11
store_op op.At = gnum 12

abbrev later_op : ℕ → Op2
later_op zero = op.Le
later_op (suc zero) = op.Gt
later_op (suc (suc zero)) = op.Ge
later_op (suc (suc (suc zero))) = op.Join
later_op _ = op.At

abbrev op_at : ℕ → Op2
op_at zero = op.Add
op_at (suc zero) = op.Sub
op_at (suc (suc zero)) = op.Mul
op_at (suc (suc (suc zero))) = op.Div
op_at (suc (suc (suc (suc zero)))) = op.Rem
op_at (suc (suc (suc (suc (suc zero))))) = op.Eq
op_at (suc (suc (suc (suc (suc (suc zero)))))) = op.Ne
op_at (suc (suc (suc (suc (suc (suc (suc zero))))))) = op.Lt
op_at (suc (suc (suc (suc (suc (suc (suc (suc n)))))))) = later_op n

abbrev op_of : Gv → Op2
op_of g = op_at (stored_number g)

pub op_back : (o : Op2) → op_of (store_op o) ≡ o
op_back op.Add = refl
op_back op.Sub = refl
op_back op.Mul = refl
op_back op.Div = refl
op_back op.Rem = refl
op_back op.Eq = refl
op_back op.Ne = refl
op_back op.Lt = refl
op_back op.Le = refl
op_back op.Gt = refl
op_back op.Ge = refl
op_back op.Join = refl
op_back op.At = refl

-- ---- a form of a tree: its place among the forms, told by nesting, and its parts

pattern abbrev form0 : Gv → Gv
form0 parts = gcons gnil parts

pattern abbrev form1 : Gv → Gv
form1 parts = gcons (gcons gnil gnil) parts

pattern abbrev form2 : Gv → Gv
form2 parts = gcons (gcons gnil (gcons gnil gnil)) parts

pattern abbrev form3 : Gv → Gv
form3 parts = gcons (gcons gnil (gcons gnil (gcons gnil gnil))) parts

pattern abbrev form4 : Gv → Gv
form4 parts = gcons (gcons gnil (gcons gnil (gcons gnil (gcons gnil gnil)))) parts

pattern abbrev form5 : Gv → Gv
form5 parts = gcons (gcons gnil (gcons gnil (gcons gnil (gcons gnil (gcons gnil gnil))))) parts

pattern abbrev form6 : Gv → Gv
form6 parts = gcons (gcons gnil (gcons gnil (gcons gnil (gcons gnil (gcons gnil (gcons gnil gnil)))))) parts

pattern abbrev form7 : Gv → Gv
form7 parts = gcons (gcons gnil (gcons gnil (gcons gnil (gcons gnil (gcons gnil (gcons gnil (gcons gnil gnil))))))) parts

-- the forms from the eighth on
pattern abbrev later : Gv → Gv
later parts = gcons (gcons gnil (gcons gnil (gcons gnil (gcons gnil (gcons gnil (gcons gnil (gcons gnil (gcons gnil gnil)))))))) parts

-- ---- expressions

abbrev mutual
  store_expression : Expression → Gv
  store_expression (IntLiteral n) = form0 (store_int n)
  store_expression (TextLiteral text) = form1 (store_bytes text)
  store_expression (BoolLiteral b) = form2 (store_bool b)
  store_expression (Variable name) = form3 (store_bytes name)
  store_expression (ListLiteral base items) = form4 (gcons (store_kind base) (store_expressions items))
  store_expression (Length e) = form5 (store_expression e)
  store_expression (ItemAt list place) = form6 (gcons (store_expression list) (store_expression place))
  store_expression (Negative e) = form7 (store_expression e)
  store_expression (Not e) = later (form0 (store_expression e))
  store_expression (Comparison o left right) = later (form1 (gcons (store_op o) (gcons (store_expression left) (store_expression right))))
  store_expression (Chain first rest) = later (form2 (gcons (store_expression first) (store_links rest)))
  store_expression (Conjunction items) = later (form3 (store_expressions items))
  store_expression (Disjunction items) = later (form4 (store_expressions items))
  store_expression Injected = later (form5 gnil)
  store_expression (InjectedOn service method) = later (form6 (gcons (store_bytes service) (store_name method)))

  store_expressions : Expressions → Gv
  store_expressions NoExpressions = gnil
  store_expressions (AndExpressions e es) = gcons (store_expression e) (store_expressions es)

  store_links : Links → Gv
  store_links NoLinks = gnil
  store_links (AndLinks o e links) = gcons (store_op o) (gcons (store_expression e) (store_links links))

abbrev mutual
  expression_of : Gv → Expression
  expression_of (form0 n) = IntLiteral (int_of n)
  expression_of (form1 text) = TextLiteral (bytes_of text)
  expression_of (form2 b) = BoolLiteral (bool_of b)
  expression_of (form3 name) = Variable (bytes_of name)
  expression_of (form4 (gcons base items)) = ListLiteral (kind_of base) (expressions_of items)
  expression_of (form5 e) = Length (expression_of e)
  expression_of (form6 (gcons list place)) = ItemAt (expression_of list) (expression_of place)
  expression_of (form7 e) = Negative (expression_of e)
  expression_of (later (form0 e)) = Not (expression_of e)
  expression_of (later (form1 (gcons o (gcons left right)))) = Comparison (op_of o) (expression_of left) (expression_of right)
  expression_of (later (form2 (gcons first rest))) = Chain (expression_of first) (links_of rest)
  expression_of (later (form3 items)) = Conjunction (expressions_of items)
  expression_of (later (form4 items)) = Disjunction (expressions_of items)
  expression_of (later (form6 (gcons service method))) = InjectedOn (bytes_of service) (stored_name method)
  expression_of _ = Injected

  expressions_of : Gv → Expressions
  expressions_of (gcons e es) = AndExpressions (expression_of e) (expressions_of es)
  expressions_of _ = NoExpressions

  links_of : Gv → Links
  links_of (gcons o (gcons e links)) = AndLinks (op_of o) (expression_of e) (links_of links)
  links_of _ = NoLinks

mutual
  pub expression_back : (e : Expression) → expression_of (store_expression e) ≡ e
  expression_back (IntLiteral n) = ap IntLiteral (int_back n)
  expression_back (TextLiteral text) = ap TextLiteral (bytes_back text)
  expression_back (BoolLiteral b) = ap BoolLiteral (bool_back b)
  expression_back (Variable name) = ap Variable (bytes_back name)
  expression_back (ListLiteral base items) = λ i. ListLiteral (kind_back base i) (expressions_back items i)
  expression_back (Length e) = ap Length (expression_back e)
  expression_back (ItemAt list place) = λ i. ItemAt (expression_back list i) (expression_back place i)
  expression_back (Negative e) = ap Negative (expression_back e)
  expression_back (Not e) = ap Not (expression_back e)
  expression_back (Comparison o left right) = λ i. Comparison (op_back o i) (expression_back left i) (expression_back right i)
  expression_back (Chain first rest) = λ i. Chain (expression_back first i) (links_back rest i)
  expression_back (Conjunction items) = ap Conjunction (expressions_back items)
  expression_back (Disjunction items) = ap Disjunction (expressions_back items)
  expression_back Injected = refl
  expression_back (InjectedOn service method) = λ i. InjectedOn (bytes_back service i) (name_back method i)

  pub expressions_back : (es : Expressions) → expressions_of (store_expressions es) ≡ es
  expressions_back NoExpressions = refl
  expressions_back (AndExpressions e es) = λ i. AndExpressions (expression_back e i) (expressions_back es i)

  pub links_back : (links : Links) → links_of (store_links links) ≡ links
  links_back NoLinks = refl
  links_back (AndLinks o e links) = λ i. AndLinks (op_back o i) (expression_back e i) (links_back links i)

-- ---- statements

abbrev mutual
  store_statement : Statement → Gv
  store_statement (Let name value) = form0 (gcons (store_bytes name) (store_expression value))
  store_statement (Assign name value) = form1 (gcons (store_bytes name) (store_expression value))
  store_statement (If cond body) = form2 (gcons (store_expression cond) (store_statements body))
  store_statement (IfElse cond body other) = form3 (gcons (store_expression cond) (gcons (store_statements body) (store_statements other)))
  store_statement (Repeat times body) = form4 (gcons (gnum times) (store_statements body))
  store_statement (For name over body) = form5 (gcons (store_bytes name) (gcons (store_expression over) (store_statements body)))
  store_statement Break = form6 gnil
  store_statement (Return value) = form7 (store_expression value)
  store_statement (Fail code) = later (form0 (store_bytes code))
  store_statement (Call name service method args handlers) =
      later (form1 (gcons (store_bytes name) (gcons (store_bytes service) (gcons (store_bytes method) (gcons (store_expressions args) (store_handlers handlers))))))
  store_statement (Assert cond) = later (form2 (store_expression cond))

  store_statements : Statements → Gv
  store_statements NoStatements = gnil
  store_statements (AndStatements s ss) = gcons (store_statement s) (store_statements ss)

  store_handlers : Handlers → Gv
  store_handlers NoHandlers = gnil
  store_handlers (AndHandlers code body handlers) = gcons (store_name code) (gcons (store_statements body) (store_handlers handlers))

abbrev mutual
  statement_of : Gv → Statement
  statement_of (form0 (gcons name value)) = Let (bytes_of name) (expression_of value)
  statement_of (form1 (gcons name value)) = Assign (bytes_of name) (expression_of value)
  statement_of (form2 (gcons cond body)) = If (expression_of cond) (statements_of body)
  statement_of (form3 (gcons cond (gcons body other))) = IfElse (expression_of cond) (statements_of body) (statements_of other)
  statement_of (form4 (gcons times body)) = Repeat (stored_number times) (statements_of body)
  statement_of (form5 (gcons name (gcons over body))) = For (bytes_of name) (expression_of over) (statements_of body)
  statement_of (form7 value) = Return (expression_of value)
  statement_of (later (form0 code)) = Fail (bytes_of code)
  statement_of (later (form1 (gcons name (gcons service (gcons method (gcons args handlers)))))) =
      Call (bytes_of name) (bytes_of service) (bytes_of method) (expressions_of args) (handlers_of handlers)
  statement_of (later (form2 cond)) = Assert (expression_of cond)
  statement_of _ = Break

  statements_of : Gv → Statements
  statements_of (gcons s ss) = AndStatements (statement_of s) (statements_of ss)
  statements_of _ = NoStatements

  handlers_of : Gv → Handlers
  handlers_of (gcons code (gcons body handlers)) = AndHandlers (stored_name code) (statements_of body) (handlers_of handlers)
  handlers_of _ = NoHandlers

mutual
  pub statement_back : (s : Statement) → statement_of (store_statement s) ≡ s
  statement_back (Let name value) = λ i. Let (bytes_back name i) (expression_back value i)
  statement_back (Assign name value) = λ i. Assign (bytes_back name i) (expression_back value i)
  statement_back (If cond body) = λ i. If (expression_back cond i) (statements_back body i)
  statement_back (IfElse cond body other) = λ i. IfElse (expression_back cond i) (statements_back body i) (statements_back other i)
  statement_back (Repeat times body) = λ i. Repeat times (statements_back body i)
  statement_back (For name over body) = λ i. For (bytes_back name i) (expression_back over i) (statements_back body i)
  statement_back Break = refl
  statement_back (Return value) = ap Return (expression_back value)
  statement_back (Fail code) = ap Fail (bytes_back code)
  statement_back (Call name service method args handlers) =
      λ i. Call (bytes_back name i) (bytes_back service i) (bytes_back method i) (expressions_back args i) (handlers_back handlers i)
  statement_back (Assert cond) = ap Assert (expression_back cond)

  pub statements_back : (ss : Statements) → statements_of (store_statements ss) ≡ ss
  statements_back NoStatements = refl
  statements_back (AndStatements s ss) = λ i. AndStatements (statement_back s i) (statements_back ss i)

  pub handlers_back : (handlers : Handlers) → handlers_of (store_handlers handlers) ≡ handlers
  handlers_back NoHandlers = refl
  handlers_back (AndHandlers code body handlers) = λ i. AndHandlers (name_back code i) (statements_back body i) (handlers_back handlers i)

-- ---- the codes

-- what is stored and read back is told apart by what is stored
abbrev coded_as : {A : Type 0} (store : A → Gv) (read : Gv → A) → ((x : A) → read (store x) ≡ x) → Coded A
coded_as store read back = record { code = store; inj = λ x y same. sym (back x) ∙ ap read same ∙ back y }

abbrev pub coded_expression : Coded Expression
coded_expression = coded_as store_expression expression_of expression_back

abbrev pub coded_statements : Coded Statements
coded_statements = coded_as store_statements statements_of statements_back

abbrev coded_bytes : Coded (List ℕ)
coded_bytes = coded_as store_bytes bytes_of bytes_back

abbrev coded_kind : Coded Kind
coded_kind = coded_as store_kind kind_of kind_back

abbrev coded_param : Coded Parameter
coded_param =
    code_by (List ℕ × Kind) (coded× coded_bytes coded_kind) (λ p. (p.name, p.kind)) (λ p. record { name = p.0; kind = p.1 }) (λ _. refl)

abbrev pub coded_method : Coded MethodTree
coded_method =
    code_by ((List ℕ × List Parameter) × (Kind × Statements)) (coded× (coded× coded_bytes (coded_list coded_param)) (coded× coded_kind coded_statements))
    (λ m. ((m.name, m.params), (m.gives, m.body)))
    (λ m. record { name = m.0.0; params = m.0.1; gives = m.1.0; body = m.1.1 })
    (λ _. refl)

abbrev pub coded_service : Coded ServiceTree
coded_service =
    code_by (List ℕ × List MethodTree) (coded× coded_bytes (coded_list coded_method)) (λ s. (s.name, s.methods)) (λ s. record { name = s.0; methods = s.1 }) (λ _. refl)

abbrev pub coded_services : Coded ServicesTree
coded_services = code_by (List ServiceTree) (coded_list coded_service) (λ s. s.services) (λ s. record { services = s }) (λ _. refl)

abbrev pub coded_test : Coded TestTree
coded_test = code_by (List ℕ × Statements) (coded× coded_bytes coded_statements) (λ t. (t.name, t.body)) (λ t. record { name = t.0; body = t.1 }) (λ _. refl)
