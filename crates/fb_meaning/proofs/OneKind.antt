-- An expression has one kind, where each variable has one.
use Rattle.std.specs.Prelude.{◌≡◌, ℕ, List, Option, Some}
use Rattle.std.proofs.Common.{sym, ap, ◌∙◌}
use Rattle.fb_base.specs.declared.kind.Kind.{Kind}
use Rattle.fb_base.specs.declared.operator.Op1.TheVariants as op1
use Rattle.fb_base.specs.declared.operator.Op2.TheVariants as op2
use Rattle.fb_base.specs.Kinds.{kind_of_unary, kind_of_binary, kind_of_list}
use Rattle.fb_syntax.specs.Trees.{Expression, IntLiteral, TextLiteral, BoolLiteral, Variable, ListLiteral, Length, ItemAt, Negative, Not, Comparison, Chain, Conjunction, Disjunction, Injected, InjectedOn, Links, NoLinks, AndLinks, ServicesTree}
use Rattle.fb_check.specs.Accepted.{Variables, HasKind as HasKindIn, LinksGive}
use Rattle.fb_check.specs.declared.owner.Owner.{Owner}

-- what is found of the same is the same
pub one_found : {A : Type 0} (o : Option A) (x y : A) → o ≡ Some x → o ≡ Some y → x ≡ y
one_found o x y e f = let same : Some x ≡ Some y = sym e ∙ f in cc

module _ (services : ServicesTree) (whose : Owner) (declared : Variables) (one : (name : List ℕ) (k l : Kind) → declared name k → declared name l → k ≡ l) where
  mutual
    pub one_kind : (e : Expression) (k l : Kind) → HasKindIn services whose declared e k → HasKindIn services whose declared e l → k ≡ l
    one_kind (IntLiteral n) k l h j = h ∙ sym j
    one_kind (TextLiteral text) k l h j = h ∙ sym j
    one_kind (BoolLiteral b) k l h j = h ∙ sym j
    one_kind (Variable name) k l h j = one name k l h j
    one_kind (ListLiteral base items) k l h j = one_found (kind_of_list base) k l h.1 j.1
    one_kind (Length e) k l h j =
        let same = one_kind e h.0 j.0 h.1 j.1 in
        one_found (kind_of_unary op1.Len j.0) k l (ap (kind_of_unary op1.Len) (sym same) ∙ h.2) j.2
    one_kind (ItemAt list place) k l h j =
        let left = one_kind list h.0 j.0 h.2 j.2 in
        let right = one_kind place h.1 j.1 h.3 j.3 in
        one_found (kind_of_binary op2.At j.0 j.1) k l (ap (λ a. kind_of_binary op2.At a j.1) (sym left) ∙ ap (kind_of_binary op2.At h.0) (sym right) ∙ h.4) j.4
    one_kind (Negative e) k l h j =
        let same = one_kind e h.0 j.0 h.1 j.1 in
        one_found (kind_of_unary op1.Neg j.0) k l (ap (kind_of_unary op1.Neg) (sym same) ∙ h.2) j.2
    one_kind (Not e) k l h j =
        let same = one_kind e h.0 j.0 h.1 j.1 in
        one_found (kind_of_unary op1.Not j.0) k l (ap (kind_of_unary op1.Not) (sym same) ∙ h.2) j.2
    one_kind (Comparison op first second) k l h j =
        let left = one_kind first h.0 j.0 h.2 j.2 in
        let right = one_kind second h.1 j.1 h.3 j.3 in
        one_found (kind_of_binary op j.0 j.1) k l (ap (λ a. kind_of_binary op a j.1) (sym left) ∙ ap (kind_of_binary op h.0) (sym right) ∙ h.4) j.4
    one_kind (Chain first rest) k l h j = links_one rest h.0 j.0 k l (one_kind first h.0 j.0 h.1 j.1) h.2 j.2
    one_kind (Conjunction operands) k l h j = h.1 ∙ sym j.1
    one_kind (Disjunction operands) k l h j = h.1 ∙ sym j.1
    one_kind Injected k l h j = h.1 ∙ sym j.1
    one_kind (InjectedOn service method) k l h j = h.2 ∙ sym j.2

    links_one : (links : Links) (left other k l : Kind) → left ≡ other → LinksGive services whose declared left links k → LinksGive services whose declared other links l → k ≡ l
    links_one NoLinks left other k l same h j = h ∙ same ∙ sym j
    links_one (AndLinks op operand rest) left other k l same h j =
        let right = one_kind operand h.0 j.0 h.2 j.2 in
        let applied = one_found (kind_of_binary op other j.0) h.1 j.1 (ap (λ a. kind_of_binary op a j.0) (sym same) ∙ ap (kind_of_binary op left) (sym right) ∙ h.3) j.3 in
        links_one rest h.1 j.1 k l applied h.4 j.4
