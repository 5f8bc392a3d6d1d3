-- An expression has a kind exactly where its check finds that kind.
use Rattle.std.proofs.Common.{◌≡◌, ℕ, Bool, true, false, ◌&&◌, cond, IsTrue, is_some, List, Option, Some, None, Result, Ok, refl, sym, ap, ◌∙◌}
use Rattle.fb_base.specs.declared.kind.Kind.{Kind}
use Rattle.fb_base.specs.declared.kind.Kind.TheVariants.{Int, Bool as Boolean, Text}
use Rattle.fb_base.specs.declared.operator.Op1.{Op1}
use Rattle.fb_base.specs.declared.operator.Op1.TheVariants as op1
use Rattle.fb_base.specs.declared.operator.Op2.{Op2}
use Rattle.fb_base.specs.declared.operator.Op2.TheVariants as op2
use Rattle.fb_base.specs.KindSame.{same_kind, same_kind-Decides}
use Rattle.fb_base.specs.Kinds.{kind_of_unary, kind_of_binary, kind_of_list}
use Rattle.fb_base.proofs.Results.{ok_then, then_is}
use Rattle.fb_syntax.specs.Trees.{Expression, IntLiteral, TextLiteral, BoolLiteral, Variable, ListLiteral, Length, ItemAt, Negative, Not, Comparison, Chain, Conjunction, Disjunction, Injected, InjectedOn, Expressions, NoExpressions, AndExpressions, Links, NoLinks, AndLinks, ServicesTree}
use Rattle.fb_check.specs.declared.owner.Owner.{Owner}
use Rattle.fb_check.specs.declared.owner.Owner.TheVariants as owner
use Rattle.fb_check.specs.declared.signature.Signature.{Signature}
use Rattle.fb_check.specs.declared.declarations.Declarations.{Declarations}
use Rattle.fb_check.specs.declared.error.CheckRule.{CheckRule}
use Rattle.fb_check.specs.declared.error.CheckRule.TheVariants.{UnknownName, WrongKind}
use Rattle.fb_check.specs.Scopes.{Scope, kind_named}
use Rattle.fb_check.specs.Declarations.{callee_in, service_in, is_declared}
use Rattle.fb_check.specs.ExpressionKinds.{Context, or_rule, unless, in_test, unary_kind, applied_kind, made_kind, question_kind, kind_of, all_have, kind_of_links}
use Rattle.fb_check.specs.Accepted.{Variables, HasService, HasMethod, HasCallee, HasKind, AllHaveKind, LinksGive}

-- ---- what the check goes by, and what it stands for

-- the scope has these variables
pub record Agrees (scope : Scope) (variables : Variables) : Type 0 where
  pub found : (name : List ℕ) (kind : Kind) → kind_named scope name ≡ Some kind → variables name kind
  pub there : (name : List ℕ) (kind : Kind) → variables name kind → kind_named scope name ≡ Some kind

-- these are the declarations of these services
pub record Knows (declared : Declarations) (tree : ServicesTree) : Type 0 where
  pub service_found : (service : List ℕ) → IsTrue (is_some (service_in declared service)) → HasService tree service
  pub service_there : (service : List ℕ) → HasService tree service → IsTrue (is_some (service_in declared service))
  pub callee_found : (service method : List ℕ) (callee : Signature) → callee_in declared service method ≡ Some callee → HasMethod tree service method callee.params callee.gives
  pub callee_there : (service method : List ℕ) (params : List Kind) (gives : Kind) → HasMethod tree service method params gives
      → (callee : Signature) × (callee_in declared service method ≡ Some callee) × (callee.params ≡ params) × (callee.gives ≡ gives)

-- ---- steps

pub or_rule_ok : {A : Type 0} (rule : CheckRule) (found : Option A) (x : A) → or_rule rule found ≡ Ok x → found ≡ Some x
or_rule_ok rule None x h = absurd (cc)
or_rule_ok rule (Some y) x h = cc

pub unless_ok : (rule : CheckRule) (b : Bool) (x : Unit {0}) → unless rule b ≡ Ok x → b ≡ true
unless_ok rule true x h = refl
unless_ok rule false x h = absurd (cc)

pub in_test_ok : (whose : Owner) (x : Unit {0}) → in_test whose ≡ Ok x → whose ≡ owner.Test
in_test_ok (owner.Method gives) x h = absurd (cc)
in_test_ok owner.Test x h = refl

pub same_kind_ok : (a b : Kind) → same_kind a b ≡ true → a ≡ b
same_kind_ok a b = (same_kind-Decides a b).0

pub same_kind_is : (a b : Kind) → a ≡ b → same_kind a b ≡ true
same_kind_is a b = (same_kind-Decides a b).1

both_true : (a b : Bool) → (a && b) ≡ true → (a ≡ true) × (b ≡ true)
both_true true b h = (refl, h)
both_true false b h = absurd (cc)

fit_ok : (fit : Bool) (made : Option Kind) (kind : Kind) → or_rule WrongKind (cond fit made None) ≡ Ok kind → (fit ≡ true) × (made ≡ Some kind)
fit_ok true made kind h = (refl, or_rule_ok WrongKind made kind h)
fit_ok false made kind h = absurd (cc)

made_ok : (made : Option Kind) (items : Result Bool CheckRule) (kind : Kind) → made_kind made items ≡ Ok kind → (items ≡ Ok true) × (made ≡ Some kind)
made_ok made items kind h =
    let parts = ok_then items _ kind h in
    let fit = fit_ok parts.0 made kind parts.2 in
    (parts.1 ∙ ap Ok fit.0, fit.1)

made_is : (made : Option Kind) (items : Result Bool CheckRule) (kind : Kind) → items ≡ Ok true → made ≡ Some kind → made_kind made items ≡ Ok kind
made_is made items kind is fits = then_is items _ true kind is (ap (or_rule WrongKind) fits)

-- the check of a unary operator
unary_ok : (op : Op1) (operand : Result Kind CheckRule) (kind : Kind) → unary_kind op operand ≡ Ok kind → (found : Kind) × (operand ≡ Ok found) × (kind_of_unary op found ≡ Some kind)
unary_ok op operand kind h =
    let parts = ok_then operand _ kind h in
    (parts.0, parts.1, or_rule_ok WrongKind (kind_of_unary op parts.0) kind parts.2)

unary_is : (op : Op1) (operand : Result Kind CheckRule) (found kind : Kind) → operand ≡ Ok found → kind_of_unary op found ≡ Some kind → unary_kind op operand ≡ Ok kind
unary_is op operand found kind is fits = then_is operand _ found kind is (ap (or_rule WrongKind) fits)

applied_ok : (op : Op2) (left : Kind) (operand : Result Kind CheckRule) (kind : Kind) → applied_kind op left operand ≡ Ok kind
    → (right : Kind) × (operand ≡ Ok right) × (kind_of_binary op left right ≡ Some kind)
applied_ok op left operand kind h =
    let parts = ok_then operand _ kind h in
    (parts.0, parts.1, or_rule_ok WrongKind (kind_of_binary op left parts.0) kind parts.2)

applied_is : (op : Op2) (left : Kind) (operand : Result Kind CheckRule) (right kind : Kind) → operand ≡ Ok right → kind_of_binary op left right ≡ Some kind → applied_kind op left operand ≡ Ok kind
applied_is op left operand right kind is fits = then_is operand _ right kind is (ap (or_rule WrongKind) fits)

ok_kind : (a b : Kind) → ◌≡◌ {A = Result Kind CheckRule} (Ok a) (Ok b) → b ≡ a
ok_kind a b h = cc

question_ok : (whose : Owner) (there : Bool) (kind : Kind) → question_kind whose there ≡ Ok kind → (whose ≡ owner.Test) × (there ≡ true) × (kind ≡ Boolean)
question_ok (owner.Method gives) there kind h = absurd (cc)
question_ok owner.Test true kind h = (refl, refl, ok_kind Boolean kind h)
question_ok owner.Test false kind h = absurd (cc)

question_is : (whose : Owner) (there : Bool) (kind : Kind) → whose ≡ owner.Test → there ≡ true → kind ≡ Boolean → question_kind whose there ≡ Ok kind
question_is whose there kind asks is same = (λ i. question_kind (asks i) (is i)) ∙ ap Ok (sym same)

-- ---- expressions

module _ (tree : ServicesTree) (about : Context) (knows : Knows about.declared tree) (scope : Scope) where
  declared_found : (service : List ℕ) (method : Option (List ℕ)) → is_declared about.declared service method ≡ true → HasCallee tree service method
  declared_found service None is = knows.service_found service is
  declared_found service (Some method) is = found (callee_in about.declared service method) refl is where
    found : (callee : Option Signature) → callee_in about.declared service method ≡ callee → is_some callee ≡ true → HasCallee tree service (Some method)
    found None here is = absurd (cc)
    found (Some callee) here is = (callee.params, callee.gives, knows.callee_found service method callee here)

  declared_there : (service : List ℕ) (method : Option (List ℕ)) → HasCallee tree service method → is_declared about.declared service method ≡ true
  declared_there service None has = knows.service_there service has
  declared_there service (Some method) has = ap is_some (knows.callee_there service method has.0 has.1 has.2).1

  mutual
    unfolding kind_of all_have kind_of_links

    pub kind_sound : (variables : Variables) → Agrees scope variables → (e : Expression) (kind : Kind) → kind_of about scope e ≡ Ok kind → HasKind tree about.owner variables e kind
    kind_sound variables agrees (IntLiteral n) kind h = ok_kind Int kind h
    kind_sound variables agrees (TextLiteral text) kind h = ok_kind Text kind h
    kind_sound variables agrees (BoolLiteral b) kind h = ok_kind Boolean kind h
    kind_sound variables agrees (Variable name) kind h = agrees.found name kind (or_rule_ok UnknownName (kind_named scope name) kind h)
    kind_sound variables agrees (ListLiteral base items) kind h =
        let made = made_ok (kind_of_list base) (all_have about scope base items) kind h in
        (all_sound variables agrees base items made.0, made.1)
    kind_sound variables agrees (Length e) kind h =
        let parts = unary_ok op1.Len (kind_of about scope e) kind h in
        (parts.0, kind_sound variables agrees e parts.0 parts.1, parts.2)
    kind_sound variables agrees (ItemAt list place) kind h =
        let first = ok_then (kind_of about scope list) _ kind h in
        let second = applied_ok op2.At first.0 (kind_of about scope place) kind first.2 in
        (first.0, second.0, kind_sound variables agrees list first.0 first.1, kind_sound variables agrees place second.0 second.1, second.2)
    kind_sound variables agrees (Negative e) kind h =
        let parts = unary_ok op1.Neg (kind_of about scope e) kind h in
        (parts.0, kind_sound variables agrees e parts.0 parts.1, parts.2)
    kind_sound variables agrees (Not e) kind h =
        let parts = unary_ok op1.Not (kind_of about scope e) kind h in
        (parts.0, kind_sound variables agrees e parts.0 parts.1, parts.2)
    kind_sound variables agrees (Comparison op left right) kind h =
        let first = ok_then (kind_of about scope left) _ kind h in
        let second = applied_ok op first.0 (kind_of about scope right) kind first.2 in
        (first.0, second.0, kind_sound variables agrees left first.0 first.1, kind_sound variables agrees right second.0 second.1, second.2)
    kind_sound variables agrees (Chain first rest) kind h =
        let parts = ok_then (kind_of about scope first) _ kind h in
        (parts.0, kind_sound variables agrees first parts.0 parts.1, links_sound variables agrees parts.0 rest kind parts.2)
    kind_sound variables agrees (Conjunction items) kind h =
        let made = made_ok (Some Boolean) (all_have about scope Boolean items) kind h in
        (all_sound variables agrees Boolean items made.0, (let same = made.1 in cc))
    kind_sound variables agrees (Disjunction items) kind h =
        let made = made_ok (Some Boolean) (all_have about scope Boolean items) kind h in
        (all_sound variables agrees Boolean items made.0, (let same = made.1 in cc))
    kind_sound variables agrees Injected kind h =
        let asked = question_ok about.owner true kind h in
        (asked.0, asked.2)
    kind_sound variables agrees (InjectedOn service method) kind h =
        let asked = question_ok about.owner (is_declared about.declared service method) kind h in
        (asked.0, declared_found service method asked.1, asked.2)

    all_sound : (variables : Variables) → Agrees scope variables → (wanted : Kind) (es : Expressions) → all_have about scope wanted es ≡ Ok true → AllHaveKind tree about.owner variables es wanted
    all_sound variables agrees wanted NoExpressions h = tt
    all_sound variables agrees wanted (AndExpressions e es) h =
        let first = ok_then (kind_of about scope e) _ true h in
        let rest = ok_then (all_have about scope wanted es) _ true first.2 in
        let both = both_true (same_kind first.0 wanted) rest.0 (let same = rest.2 in cc) in
        (kind_sound variables agrees e wanted (first.1 ∙ ap Ok (same_kind_ok first.0 wanted both.0)), all_sound variables agrees wanted es (rest.1 ∙ ap Ok both.1))

    links_sound : (variables : Variables) → Agrees scope variables → (left : Kind) (links : Links) (kind : Kind) → kind_of_links about scope left links ≡ Ok kind
        → LinksGive tree about.owner variables left links kind
    links_sound variables agrees left NoLinks kind h = ok_kind left kind h
    links_sound variables agrees left (AndLinks op operand rest) kind h =
        let first = ok_then (applied_kind op left (kind_of about scope operand)) _ kind h in
        let second = applied_ok op left (kind_of about scope operand) first.0 first.1 in
        (second.0, first.0, kind_sound variables agrees operand second.0 second.1, second.2, links_sound variables agrees first.0 rest kind first.2)

  mutual
    unfolding kind_of all_have kind_of_links

    pub kind_complete : (variables : Variables) → Agrees scope variables → (e : Expression) (kind : Kind) → HasKind tree about.owner variables e kind → kind_of about scope e ≡ Ok kind
    kind_complete variables agrees (IntLiteral n) kind has = ap Ok (sym has)
    kind_complete variables agrees (TextLiteral text) kind has = ap Ok (sym has)
    kind_complete variables agrees (BoolLiteral b) kind has = ap Ok (sym has)
    kind_complete variables agrees (Variable name) kind has = ap (or_rule UnknownName) (agrees.there name kind has)
    kind_complete variables agrees (ListLiteral base items) kind has =
        made_is (kind_of_list base) (all_have about scope base items) kind (all_complete variables agrees base items has.0) has.1
    kind_complete variables agrees (Length e) kind has = unary_is op1.Len (kind_of about scope e) has.0 kind (kind_complete variables agrees e has.0 has.1) has.2
    kind_complete variables agrees (ItemAt list place) kind has =
        then_is (kind_of about scope list) _ has.0 kind (kind_complete variables agrees list has.0 has.2)
        (applied_is op2.At has.0 (kind_of about scope place) has.1 kind (kind_complete variables agrees place has.1 has.3) has.4)
    kind_complete variables agrees (Negative e) kind has = unary_is op1.Neg (kind_of about scope e) has.0 kind (kind_complete variables agrees e has.0 has.1) has.2
    kind_complete variables agrees (Not e) kind has = unary_is op1.Not (kind_of about scope e) has.0 kind (kind_complete variables agrees e has.0 has.1) has.2
    kind_complete variables agrees (Comparison op left right) kind has =
        then_is (kind_of about scope left) _ has.0 kind (kind_complete variables agrees left has.0 has.2)
        (applied_is op has.0 (kind_of about scope right) has.1 kind (kind_complete variables agrees right has.1 has.3) has.4)
    kind_complete variables agrees (Chain first rest) kind has =
        then_is (kind_of about scope first) _ has.0 kind (kind_complete variables agrees first has.0 has.1) (links_complete variables agrees has.0 rest kind has.2)
    kind_complete variables agrees (Conjunction items) kind has =
        made_is (Some Boolean) (all_have about scope Boolean items) kind (all_complete variables agrees Boolean items has.0) (ap Some (sym has.1))
    kind_complete variables agrees (Disjunction items) kind has =
        made_is (Some Boolean) (all_have about scope Boolean items) kind (all_complete variables agrees Boolean items has.0) (ap Some (sym has.1))
    kind_complete variables agrees Injected kind has = question_is about.owner true kind has.0 refl has.1
    kind_complete variables agrees (InjectedOn service method) kind has =
        question_is about.owner (is_declared about.declared service method) kind has.0 (declared_there service method has.1) has.2

    all_complete : (variables : Variables) → Agrees scope variables → (wanted : Kind) (es : Expressions) → AllHaveKind tree about.owner variables es wanted → all_have about scope wanted es ≡ Ok true
    all_complete variables agrees wanted NoExpressions has = refl
    all_complete variables agrees wanted (AndExpressions e es) has =
        then_is (kind_of about scope e) _ wanted true (kind_complete variables agrees e wanted has.0)
        (then_is (all_have about scope wanted es) _ true true (all_complete variables agrees wanted es has.1)
        (ap (λ b. Ok (b && true)) (same_kind_is wanted wanted refl)))

    links_complete : (variables : Variables) → Agrees scope variables → (left : Kind) (links : Links) (kind : Kind) → LinksGive tree about.owner variables left links kind
        → kind_of_links about scope left links ≡ Ok kind
    links_complete variables agrees left NoLinks kind gives = ap Ok (sym gives)
    links_complete variables agrees left (AndLinks op operand rest) kind gives =
        then_is (applied_kind op left (kind_of about scope operand)) _ gives.1 kind
        (applied_is op left (kind_of about scope operand) gives.0 gives.1 (kind_complete variables agrees operand gives.0 gives.2) gives.3)
        (links_complete variables agrees gives.1 rest kind gives.4)
