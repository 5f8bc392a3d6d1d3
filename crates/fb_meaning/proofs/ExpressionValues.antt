-- The value of an expression has its kind.
use Rattle.std.specs.Prelude.{ℕ, Bool, true, false, List, [], ◌∷◌, All, IfSome, Option, Some, None}
use Rattle.std.proofs.Common.{refl, sym, ap, subst}
use Rattle.std.proofs.lemmas.List.Elements.{All-nil, All-cons}
use Rattle.fb_base.specs.declared.kind.Kind.{Kind}
use Rattle.fb_base.specs.declared.kind.Kind.TheVariants.{Bool as Boolean}
use Rattle.fb_base.specs.declared.method.MethodId.{MethodId}
use Rattle.fb_base.specs.declared.operator.Op1.TheVariants as op1
use Rattle.fb_base.specs.declared.operator.Op2.TheVariants as op2
use Rattle.fb_base.specs.declared.value.Value.{Value}
use Rattle.fb_base.specs.declared.value.Value.TheVariants as value
use Rattle.fb_base.specs.Laws.{BinaryFitsTable, UnaryFitsTable, ListFitsTable}
use Rattle.fb_base.specs.Operators.{value_of_unary, value_of_binary, value_of_list}
use Rattle.fb_base.specs.Values.{has_kind, HasKind}
use Rattle.fb_syntax.specs.Trees.{Expression, IntLiteral, TextLiteral, BoolLiteral, Variable, ListLiteral, Length, ItemAt, Negative, Not, Comparison, Chain, Conjunction, Disjunction, Injected, InjectedOn, Expressions, NoExpressions, AndExpressions, Links, NoLinks, AndLinks, ServicesTree}
use Rattle.fb_check.specs.Accepted.{Variables, HasKind as HasKindIn, AllHaveKind, LinksGive, HaveKinds as HaveKindsIn}
use Rattle.fb_check.specs.Scopes.{Scope}
use Rattle.fb_check.specs.declared.owner.Owner.{Owner}
use Rattle.fb_meaning.specs.Expressions.{◌>>=◌, Environment, answer, decided_by, value_of, values_of, value_of_links, value_of_operands}
use Rattle.fb_meaning.specs.Kinds.{AreOfScope, in_scope, ExpressionsKeepKinds}
use Rattle.fb_meaning.specs.Records.{HaveKinds}
use Rattle.fb_meaning.specs.Variables.{value_named}
use Rattle.fb_meaning.proofs.ScopeValues.{Declares, scope_value}

-- what holds of what comes after, where there is something
pub some_then : {A B : Type 0} (P : A → Type 0) (Q : B → Type 0) (o : Option A) (more : A → Option B) → IfSome o P → ((x : A) → P x → IfSome (more x) Q) → IfSome (o >>= more) Q
some_then P Q None more h k = tt
some_then P Q (Some x) more h k = k x h

-- what operators give has the kind that their table tells
pub record FitTables : Type 0 where
  pub binary : BinaryFitsTable
  pub unary : UnaryFitsTable
  pub list : ListFitsTable

abbrev OfKind : Kind → Value → Type 0
OfKind kind v = HasKind v kind

abbrev AllOfKind : Kind → List Value → Type 0
AllOfKind kind vs = All (OfKind kind) vs

answers_bool : (question : List MethodId → Bool) (injected : Option (List MethodId)) → IfSome (answer question injected) (OfKind Boolean)
answers_bool question None = tt
answers_bool question (Some callees) = refl

decides_bool : (deciding : Bool) (operand : Value) (others : Option Value) → IfSome others (OfKind Boolean) → IfSome (decided_by deciding operand others) (OfKind Boolean)
decides_bool false (value.Bool false) others h = refl
decides_bool false (value.Bool true) others h = h
decides_bool true (value.Bool true) others h = refl
decides_bool true (value.Bool false) others h = h
decides_bool false (value.Int n) others h = tt
decides_bool false (value.Text text) others h = tt
decides_bool false (value.List items) others h = tt
decides_bool true (value.Int n) others h = tt
decides_bool true (value.Text text) others h = tt
decides_bool true (value.List items) others h = tt

module _ (tables : FitTables) (services : ServicesTree) (whose : Owner) (declared : Variables) (here : Environment) (scope : Scope)
    (declares : Declares scope declared) (hold : AreOfScope scope here.variables) where
  named_fits : (name : List ℕ) (kind : Kind) → declared name kind → IfSome (value_named here.variables name) (OfKind kind)
  named_fits name kind has =
      let found = scope_value scope here.variables name kind hold ((declares name kind).0 has) in
      subst (λ o. IfSome o (OfKind kind)) (sym found.there) found.fits

  mutual
    unfolding value_of

    pub value_fits : (e : Expression) (kind : Kind) → HasKindIn services whose declared e kind → IfSome (value_of services here e) (OfKind kind)
    value_fits (IntLiteral n) kind has = ap (has_kind (value.Int n)) has
    value_fits (TextLiteral text) kind has = ap (has_kind (value.Text text)) has
    value_fits (BoolLiteral b) kind has = ap (has_kind (value.Bool b)) has
    value_fits (Variable name) kind has = named_fits name kind has
    value_fits (ListLiteral base items) kind has =
        some_then (AllOfKind base) (OfKind kind) (values_of services here items) value_of_list (values_fit items base has.0)
        (λ vs all. tables.list vs base kind all has.1)
    value_fits (Length e) kind has =
        some_then (OfKind has.0) (OfKind kind) (value_of services here e) (value_of_unary op1.Len) (value_fits e has.0 has.1)
        (λ v fits. tables.unary op1.Len v has.0 kind fits has.2)
    value_fits (ItemAt list place) kind has =
        some_then (OfKind has.0) (OfKind kind) (value_of services here list) _ (value_fits list has.0 has.2)
        (λ v fits. some_then (OfKind has.1) (OfKind kind) (value_of services here place) (value_of_binary op2.At v) (value_fits place has.1 has.3)
        (λ w also. tables.binary op2.At v w has.0 has.1 kind fits also has.4))
    value_fits (Negative e) kind has =
        some_then (OfKind has.0) (OfKind kind) (value_of services here e) (value_of_unary op1.Neg) (value_fits e has.0 has.1)
        (λ v fits. tables.unary op1.Neg v has.0 kind fits has.2)
    value_fits (Not e) kind has =
        some_then (OfKind has.0) (OfKind kind) (value_of services here e) (value_of_unary op1.Not) (value_fits e has.0 has.1)
        (λ v fits. tables.unary op1.Not v has.0 kind fits has.2)
    value_fits (Comparison op first second) kind has =
        some_then (OfKind has.0) (OfKind kind) (value_of services here first) _ (value_fits first has.0 has.2)
        (λ v fits. some_then (OfKind has.1) (OfKind kind) (value_of services here second) (value_of_binary op v) (value_fits second has.1 has.3)
        (λ w also. tables.binary op v w has.0 has.1 kind fits also has.4))
    value_fits (Chain first rest) kind has =
        some_then (OfKind has.0) (OfKind kind) (value_of services here first) _ (value_fits first has.0 has.1)
        (λ v fits. links_fit rest v has.0 kind fits has.2)
    value_fits (Conjunction operands) kind has = subst (λ k. IfSome (value_of_operands services here false operands) (OfKind k)) (sym has.1) (operands_fit false operands has.0)
    value_fits (Disjunction operands) kind has = subst (λ k. IfSome (value_of_operands services here true operands) (OfKind k)) (sym has.1) (operands_fit true operands has.0)
    value_fits Injected kind has = subst (λ k. IfSome (value_of services here Injected) (OfKind k)) (sym has.1) (answers_bool _ here.injected)
    value_fits (InjectedOn service method) kind has =
        subst (λ k. IfSome (value_of services here (InjectedOn service method)) (OfKind k)) (sym has.2) (answers_bool _ here.injected)

    values_fit : (es : Expressions) (kind : Kind) → AllHaveKind services whose declared es kind → IfSome (values_of services here es) (AllOfKind kind)
    values_fit NoExpressions kind has = All-nil (OfKind kind)
    values_fit (AndExpressions e es) kind has =
        some_then (OfKind kind) (AllOfKind kind) (value_of services here e) _ (value_fits e kind has.0)
        (λ v fits. some_then (AllOfKind kind) (AllOfKind kind) (values_of services here es) _ (values_fit es kind has.1)
        (λ vs all. All-cons (OfKind kind) v vs fits all))

    links_fit : (links : Links) (left : Value) (kind given : Kind) → HasKind left kind → LinksGive services whose declared kind links given
        → IfSome (value_of_links services here left links) (OfKind given)
    links_fit NoLinks left kind given fits has = subst (HasKind left) (sym has) fits
    links_fit (AndLinks op operand rest) left kind given fits has =
        some_then (OfKind has.0) (OfKind given) (value_of services here operand) _ (value_fits operand has.0 has.2)
        (λ v also. some_then (OfKind has.1) (OfKind given) (value_of_binary op left v) _ (tables.binary op left v kind has.0 has.1 fits also has.3)
        (λ w applied. links_fit rest w has.1 given applied has.4))

    operands_fit : (deciding : Bool) (es : Expressions) → AllHaveKind services whose declared es Boolean → IfSome (value_of_operands services here deciding es) (OfKind Boolean)
    operands_fit deciding NoExpressions has = refl
    operands_fit deciding (AndExpressions e es) has =
        some_then (OfKind Boolean) (OfKind Boolean) (value_of services here e) _ (value_fits e Boolean has.0)
        (λ v fits. decides_bool deciding v _ (operands_fit deciding es has.1))

  -- arguments fit parameters
  pub arguments_fit : (es : Expressions) (kinds : List Kind) → HaveKindsIn services whose declared es kinds → IfSome (values_of services here es) (λ vs. HaveKinds vs kinds)
  unfolding value_of
  arguments_fit NoExpressions [] has = tt
  arguments_fit NoExpressions (kind ∷ kinds) has = absurd has
  arguments_fit (AndExpressions e es) [] has = absurd has
  arguments_fit (AndExpressions e es) (kind ∷ kinds) has =
      some_then (OfKind kind) (λ vs. HaveKinds vs (kind ∷ kinds)) (value_of services here e) _ (value_fits e kind has.0)
      (λ v fits. some_then (λ vs. HaveKinds vs kinds) (λ vs. HaveKinds vs (kind ∷ kinds)) (values_of services here es) _ (arguments_fit es kinds has.1)
      (λ vs all. (fits, all)))

pub expressions_keep_kinds : FitTables → ExpressionsKeepKinds
expressions_keep_kinds tables services whose scope here e kind has hold = value_fits tables services whose (in_scope scope) here scope (λ name k. (λ is. is, λ is. is)) hold e kind has
