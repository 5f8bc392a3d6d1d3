use Rattle.std.proofs.Common.{◌≡◌, List, [], map, Ok, sym, ◌∙◌, ⊎_elim, refl, ap}
use Rattle.std.proofs.lemmas.Slice.Zip.{either_empty_from_Zip}
use Rattle.fb_base.specs.declared.kind.Kind.{Kind}
use Rattle.fb_syntax.specs.declared.expr.Expr.{Expr}
use Rattle.fb_syntax.specs.Trees.{Expressions, NoExpressions, AndExpressions}
use Rattle.fb_syntax.specs.Views.{view_expr, expressions_of}
use Rattle.fb_check.specs.declared.walk.Walk.{Walk}
use Rattle.fb_check.specs.ExpressionKinds.{Context}
use Rattle.fb_check.specs.Walking.{want_kinds}
use Rattle.fb_check.proofs.context.Context.want_kinds.Goals as goal

no_kinds : (about : Context) (args : Expressions) (walk : Walk) → want_kinds about args [] walk ≡ Ok (tt, walk)
unfolding want_kinds
no_kinds about NoExpressions walk = refl
no_kinds about (AndExpressions e es) walk = refl

no_args : (about : Context) (args : List Expr) (kinds : List Kind) (walk : Walk) → args ≡ [] → want_kinds about (expressions_of (map view_expr args)) kinds walk ≡ Ok (tt, walk)
unfolding want_kinds
no_args about args kinds walk none = ap (λ es. want_kinds about (expressions_of (map view_expr es)) kinds walk) none

pub returns : goal.returns
returns c =
    let it = c.loop-arg.arg-iterator in
    sym c.loop-arg.invariant.2
    ∙ ⊎_elim (λ none. no_args c.args.self.now it.a.rest.now it.b.rest.now c.args.walk.now none)
    (λ none. ap (λ kinds. want_kinds c.args.self.now (expressions_of (map view_expr it.a.rest.now)) kinds c.args.walk.now) none
    ∙ no_kinds c.args.self.now (expressions_of (map view_expr it.a.rest.now)) c.args.walk.now)
    (either_empty_from_Zip it c.next.new.self c.next.result c.in-None.is c.next.ensures.steps)
