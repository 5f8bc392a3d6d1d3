-- What fits with some variables fits with the same ones told otherwise.
use Rattle.std.specs.Prelude.{◌≡◌, ◌↔◌, ◌⊎◌, ℕ, Bool, true, List, [], ◌∷◌}
use Rattle.std.proofs.Common.{inl, inr}
use Rattle.fb_base.specs.declared.kind.Kind.{Kind}
use Rattle.fb_base.specs.declared.kind.Kind.TheVariants.{Bool as Boolean}
use Rattle.fb_syntax.specs.Trees.{Expression, IntLiteral, TextLiteral, BoolLiteral, Variable, ListLiteral, Length, ItemAt, Negative, Not, Comparison, Chain, Conjunction, Disjunction, Injected, InjectedOn, Expressions, NoExpressions, AndExpressions, Links, NoLinks, AndLinks, ServicesTree}
use Rattle.fb_syntax.specs.Trees.{Statement, Let, Assign, If, IfElse, Repeat, For, Break, Return, Fail, Call, Assert, Statements, NoStatements, AndStatements, Handlers, NoHandlers, AndHandlers}
use Rattle.fb_check.specs.Accepted.{Variables, HasKind, AllHaveKind, LinksGive, HaveKinds, with_variable, behind, Fits, BlockFits, HandlersFit}
use Rattle.fb_check.specs.declared.owner.Owner.{Owner}

abbrev pub AreSame : Variables → Variables → Type 0
AreSame one other = (name : List ℕ) (kind : Kind) → one name kind ↔ other name kind

module _ (services : ServicesTree) (whose : Owner) where
  mutual
    kind_along : (one other : Variables) → AreSame one other → (e : Expression) (kind : Kind) → HasKind services whose one e kind → HasKind services whose other e kind
    kind_along one other same (IntLiteral n) kind h = h
    kind_along one other same (TextLiteral text) kind h = h
    kind_along one other same (BoolLiteral b) kind h = h
    kind_along one other same (Variable name) kind h = (same name kind).0 h
    kind_along one other same (ListLiteral base items) kind h = (all_along one other same items base h.0, h.1)
    kind_along one other same (Length e) kind h = (h.0, kind_along one other same e h.0 h.1, h.2)
    kind_along one other same (ItemAt list place) kind h = (h.0, h.1, kind_along one other same list h.0 h.2, kind_along one other same place h.1 h.3, h.4)
    kind_along one other same (Negative e) kind h = (h.0, kind_along one other same e h.0 h.1, h.2)
    kind_along one other same (Not e) kind h = (h.0, kind_along one other same e h.0 h.1, h.2)
    kind_along one other same (Comparison op first second) kind h = (h.0, h.1, kind_along one other same first h.0 h.2, kind_along one other same second h.1 h.3, h.4)
    kind_along one other same (Chain first rest) kind h = (h.0, kind_along one other same first h.0 h.1, links_along one other same h.0 rest kind h.2)
    kind_along one other same (Conjunction operands) kind h = (all_along one other same operands Boolean h.0, h.1)
    kind_along one other same (Disjunction operands) kind h = (all_along one other same operands Boolean h.0, h.1)
    kind_along one other same Injected kind h = h
    kind_along one other same (InjectedOn service method) kind h = h

    all_along : (one other : Variables) → AreSame one other → (es : Expressions) (kind : Kind) → AllHaveKind services whose one es kind → AllHaveKind services whose other es kind
    all_along one other same NoExpressions kind h = tt
    all_along one other same (AndExpressions e es) kind h = (kind_along one other same e kind h.0, all_along one other same es kind h.1)

    links_along : (one other : Variables) → AreSame one other → (left : Kind) (links : Links) (kind : Kind) → LinksGive services whose one left links kind → LinksGive services whose other left links kind
    links_along one other same left NoLinks kind h = h
    links_along one other same left (AndLinks op operand rest) kind h =
        (h.0, h.1, kind_along one other same operand h.0 h.2, h.3, links_along one other same h.1 rest kind h.4)

  kinds_along : (one other : Variables) → AreSame one other → (es : Expressions) (kinds : List Kind) → HaveKinds services whose one es kinds → HaveKinds services whose other es kinds
  kinds_along one other same NoExpressions [] h = tt
  kinds_along one other same NoExpressions (kind ∷ kinds) h = absurd h
  kinds_along one other same (AndExpressions e es) [] h = absurd h
  kinds_along one other same (AndExpressions e es) (kind ∷ kinds) h = (kind_along one other same e kind h.0, kinds_along one other same es kinds h.1)

  flipped : (one other : Variables) → AreSame one other → AreSame other one
  flipped one other same name kind = ((same name kind).1, (same name kind).0)

  same_more : (name : List ℕ) (OfOne OfOther : Kind → Type 0) (one other : Variables) → ((kind : Kind) → OfOne kind ↔ OfOther kind) → AreSame one other
      → AreSame (with_variable name OfOne one) (with_variable name OfOther other)
  same_more name OfOne OfOther one other of same found kind = (on, back)
    where
      on : ((found ≡ name) × OfOne kind) ⊎ one found kind → ((found ≡ name) × OfOther kind) ⊎ other found kind
      on (inl here) = inl (here.0, (of kind).0 here.1)
      on (inr before) = inr ((same found kind).0 before)

      back : ((found ≡ name) × OfOther kind) ⊎ other found kind → ((found ≡ name) × OfOne kind) ⊎ one found kind
      back (inl here) = inl (here.0, (of kind).1 here.1)
      back (inr before) = inr ((same found kind).1 before)

  same_behind : (one other : Variables) → AreSame one other → (s : Statement) → AreSame (behind services whose one s) (behind services whose other s)
  same_behind one other same (Let name value) =
      same_more name (HasKind services whose one value) (HasKind services whose other value) one other
      (λ kind. (kind_along one other same value kind, kind_along other one (flipped one other same) value kind)) same
  same_behind one other same (Assign name value) = same
  same_behind one other same (If cond body) = same
  same_behind one other same (IfElse cond body otherwise) = same
  same_behind one other same (Repeat times body) = same
  same_behind one other same (For name over body) = same
  same_behind one other same Break = same
  same_behind one other same (Return value) = same
  same_behind one other same (Fail code) = same
  same_behind one other same (Call target service method args hs) = same
  same_behind one other same (Assert cond) = same

  mutual
    fits_along : (looping : Bool) (one other : Variables) → AreSame one other → (s : Statement) → Fits services whose looping one s → Fits services whose looping other s
    fits_along looping one other same (Let name value) h = ((λ kind has. h.0 kind ((same name kind).1 has)), (h.1.0, kind_along one other same value h.1.0 h.1.1))
    fits_along looping one other same (Assign name value) h = (h.0, kind_along one other same value h.0 h.1, (same name h.0).0 h.2)
    fits_along looping one other same (If cond body) h = (kind_along one other same cond Boolean h.0, block_along looping one other same body h.1)
    fits_along looping one other same (IfElse cond body otherwise) h =
        (kind_along one other same cond Boolean h.0, block_along looping one other same body h.1, block_along looping one other same otherwise h.2)
    fits_along looping one other same (Repeat times body) h = block_along true one other same body h
    fits_along looping one other same (For name over body) h = (
      h.0,
      h.1,
      kind_along one other same over h.0 h.2,
      h.3,
      (λ kind has. h.4 kind ((same name kind).1 has)),
      block_along true (with_variable name (λ kind. kind ≡ h.1) one) (with_variable name (λ kind. kind ≡ h.1) other)
          (same_more name (λ kind. kind ≡ h.1) (λ kind. kind ≡ h.1) one other (λ kind. (λ is. is, λ is. is)) same) body h.5,
    )
    fits_along looping one other same Break h = h
    fits_along looping one other same (Return value) h = (h.0, h.1, kind_along one other same value h.0 h.2)
    fits_along looping one other same (Fail code) h = h
    fits_along looping one other same (Call target service method args hs) h =
        (h.0, h.1, h.2, kinds_along one other same args h.0 h.3, (same target h.1).0 h.4, handlers_along looping one other same hs h.5)
    fits_along looping one other same (Assert cond) h = (h.0, kind_along one other same cond Boolean h.1)

    pub block_along : (looping : Bool) (one other : Variables) → AreSame one other → (ss : Statements) → BlockFits services whose looping one ss → BlockFits services whose looping other ss
    block_along looping one other same NoStatements h = tt
    block_along looping one other same (AndStatements s ss) h =
        (fits_along looping one other same s h.0, block_along looping (behind services whose one s) (behind services whose other s) (same_behind one other same s) ss h.1)

    handlers_along : (looping : Bool) (one other : Variables) → AreSame one other → (hs : Handlers) → HandlersFit services whose looping one hs → HandlersFit services whose looping other hs
    handlers_along looping one other same NoHandlers h = tt
    handlers_along looping one other same (AndHandlers code body hs) h = (block_along looping one other same body h.0, handlers_along looping one other same hs h.1)
