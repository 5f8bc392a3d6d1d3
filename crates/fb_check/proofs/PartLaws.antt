-- What the steps of a statement's check find, and what they go by.
use Rattle.std.proofs.Common.{◌≡◌, ℕ, suc, nat_eq, List, [], ◌∷◌, ◌++◌, length, Option, Some, None, Result, Ok, Err, refl, sym, ap, ◌∙◌, subst}
use Rattle.std.proofs.lemmas.Bool.Decides.{Decides-eqb}
use Rattle.fb_base.specs.declared.kind.Kind.{Kind}
use Rattle.fb_base.specs.KindSame.{same_kind}
use Rattle.fb_syntax.specs.Trees.{Expression, Expressions, NoExpressions, AndExpressions, ServicesTree}
use Rattle.fb_syntax.specs.Counts.{expressions_count}
use Rattle.fb_check.specs.declared.walk.Walk.{Walk}
use Rattle.fb_check.specs.declared.error.CheckRule.{CheckRule}
use Rattle.fb_check.specs.declared.error.CheckRule.TheVariants.{UnknownName, UnknownCallee, WrongKind, WrongCount}
use Rattle.fb_check.specs.Scopes.{kind_named}
use Rattle.fb_check.specs.Declarations.{callee_in}
use Rattle.fb_check.specs.ExpressionKinds.{Context, or_rule, unless, kind_of}
use Rattle.fb_check.specs.Walking.{Walking, ◌>>=◌, then_at, here, want_kind, want_kinds, want_target, declare, declared_if_new}
use Rattle.fb_check.specs.StatementChecks.{call_check}
use Rattle.fb_check.specs.Accepted.{Variables, HasMethod, HaveKinds}
use Rattle.fb_check.proofs.Walks.{then_ok, found_first, found_second}
use Rattle.fb_check.proofs.KindLaws.{Agrees, Knows, or_rule_ok, unless_ok, same_kind_ok, same_kind_is, kind_sound, kind_complete}

module _ (about : Context) where
  -- what is found without going on, and what comes then
  pub here_then_ok : {A B : Type 0} (found : Result A CheckRule) (more : A → Walking B) (walk after : Walk) (y : B) → (here about found >>= more) walk ≡ Ok (y, after)
      → (x : A) × (found ≡ Ok x) × (more x walk ≡ Ok (y, after))
  here_then_ok (Ok x) more walk after y h = (x, refl, h)
  here_then_ok (Err rule) more walk after y h = absurd (cc)

  pub here_then_is : {A B : Type 0} (found : Result A CheckRule) (more : A → Walking B) (walk after : Walk) (x : A) (y : B) → found ≡ Ok x → more x walk ≡ Ok (y, after)
      → (here about found >>= more) walk ≡ Ok (y, after)
  here_then_is found more walk after x y is rest = ap (λ f. then_at (here about f walk) more) is ∙ rest

  -- the last that is found
  pub here_last_ok : {A : Type 0} (found : Result A CheckRule) (walk after : Walk) (x : A) → here about found walk ≡ Ok (x, after) → (found ≡ Ok x) × (walk ≡ after)
  here_last_ok (Ok y) walk after x h = (ap Ok (found_first y x walk after h), found_second y x walk after h)
  here_last_ok (Err rule) walk after x h = absurd (cc)

  pub here_last_is : {A : Type 0} (found : Result A CheckRule) (walk : Walk) (x : A) → found ≡ Ok x → here about found walk ≡ Ok (x, walk)
  here_last_is found walk x is = ap (λ f. here about f walk) is

  pub want_kind_ok : (e : Expression) (wanted : Kind) (walk after : Walk) (x : Unit {0}) → want_kind about e wanted walk ≡ Ok (x, after)
      → (kind_of about walk.scope e ≡ Ok wanted) × (walk ≡ after)
  unfolding want_kind
  want_kind_ok e wanted walk after x h =
      let first = here_then_ok (kind_of about walk.scope e) _ walk after x h in
      let last = here_last_ok (unless WrongKind (same_kind first.0 wanted)) walk after x first.2 in
      (first.1 ∙ ap Ok (same_kind_ok first.0 wanted (unless_ok WrongKind (same_kind first.0 wanted) x last.0)), last.1)

  pub want_kind_is : (e : Expression) (wanted : Kind) (walk : Walk) → kind_of about walk.scope e ≡ Ok wanted → want_kind about e wanted walk ≡ Ok (tt, walk)
  unfolding want_kind
  want_kind_is e wanted walk is =
      here_then_is (kind_of about walk.scope e) _ walk walk wanted tt is
      (here_last_is (unless WrongKind (same_kind wanted wanted)) walk tt (ap (unless WrongKind) (same_kind_is wanted wanted refl)))

  pub want_then_ok : {B : Type 0} (e : Expression) (wanted : Kind) (more : Walking B) (walk after : Walk) (y : B) → (want_kind about e wanted >>= λ _. more) walk ≡ Ok (y, after)
      → (kind_of about walk.scope e ≡ Ok wanted) × (more walk ≡ Ok (y, after))
  want_then_ok e wanted more walk after y h =
      let parts = then_ok (want_kind about e wanted walk) (λ _. more) y after h in
      let first = want_kind_ok e wanted walk parts.1 parts.0 parts.2 in
      (first.0, ap more first.1 ∙ parts.3)

  pub want_then_is : {B : Type 0} (e : Expression) (wanted : Kind) (more : Walking B) (walk after : Walk) (y : B) → kind_of about walk.scope e ≡ Ok wanted → more walk ≡ Ok (y, after)
      → (want_kind about e wanted >>= λ _. more) walk ≡ Ok (y, after)
  want_then_is e wanted more walk after y is rest = ap (λ found. then_at found (λ _. more)) (want_kind_is e wanted walk is) ∙ rest

  pub want_target_ok : (name : List ℕ) (given : Kind) (walk after : Walk) (x : Unit {0}) → want_target about name given walk ≡ Ok (x, after)
      → (kind_named walk.scope name ≡ Some given) × (walk ≡ after)
  unfolding want_target
  want_target_ok name given walk after x h =
      let first = here_then_ok (or_rule UnknownName (kind_named walk.scope name)) _ walk after x h in
      let last = here_last_ok (unless WrongKind (same_kind given first.0)) walk after x first.2 in
      (or_rule_ok UnknownName (kind_named walk.scope name) first.0 first.1 ∙ ap Some (sym (same_kind_ok given first.0 (unless_ok WrongKind (same_kind given first.0) x last.0))), last.1)

  pub want_target_is : (name : List ℕ) (given : Kind) (walk : Walk) → kind_named walk.scope name ≡ Some given → want_target about name given walk ≡ Ok (tt, walk)
  unfolding want_target
  want_target_is name given walk is =
      here_then_is (or_rule UnknownName (kind_named walk.scope name)) _ walk walk given tt (ap (or_rule UnknownName) is)
      (here_last_is (unless WrongKind (same_kind given given)) walk tt (ap (unless WrongKind) (same_kind_is given given refl)))

  declared_ok : (name : List ℕ) (kind : Kind) (found : Option Kind) (walk after : Walk) (x : Unit {0}) → declared_if_new about found name kind walk ≡ Ok (x, after)
      → (found ≡ None) × (after.scope ≡ walk.scope ++ record { name = name; kind = kind } ∷ [])
  declared_ok name kind (Some k) walk after x h = absurd (cc)
  declared_ok name kind None walk after x h =
      (refl, ap (λ (w : Walk). w.scope) (sym (found_second tt x (record walk { scope = walk.scope ++ record { name = name; kind = kind } ∷ [] }) after h)))

  pub declare_ok : (name : List ℕ) (kind : Kind) (walk after : Walk) (x : Unit {0}) → declare about name kind walk ≡ Ok (x, after)
      → (kind_named walk.scope name ≡ None) × (after.scope ≡ walk.scope ++ record { name = name; kind = kind } ∷ [])
  unfolding declare
  declare_ok name kind walk after x h = declared_ok name kind (kind_named walk.scope name) walk after x h

  pub declare_is : (name : List ℕ) (kind : Kind) (walk : Walk) → kind_named walk.scope name ≡ None
      → declare about name kind walk ≡ Ok (tt, record walk { scope = walk.scope ++ record { name = name; kind = kind } ∷ [] })
  unfolding declare
  declare_is name kind walk none = ap (λ found. declared_if_new about found name kind walk) none

-- ---- calls

module _ (tree : ServicesTree) (about : Context) (knows : Knows about.declared tree) (variables : Variables) where
  pub want_kinds_sound : (walk after : Walk) → Agrees walk.scope variables → (args : Expressions) (kinds : List Kind) (x : Unit {0}) → expressions_count args ≡ length kinds
      → want_kinds about args kinds walk ≡ Ok (x, after) → HaveKinds tree about.owner variables args kinds × (walk ≡ after)
  unfolding want_kinds
  want_kinds_sound walk after agrees NoExpressions [] x same h = (tt, found_second tt x walk after h)
  want_kinds_sound walk after agrees NoExpressions (kind ∷ kinds) x same h = absurd (cc)
  want_kinds_sound walk after agrees (AndExpressions e es) [] x same h = absurd (cc)
  want_kinds_sound walk after agrees (AndExpressions e es) (kind ∷ kinds) x same h =
      let first = want_then_ok about e kind (want_kinds about es kinds) walk after x h in
      let rest = want_kinds_sound walk after agrees es kinds x (cc) first.1 in
      ((kind_sound tree about knows walk.scope variables agrees e kind first.0, rest.0), rest.1)

  pub want_kinds_complete : (walk : Walk) → Agrees walk.scope variables → (args : Expressions) (kinds : List Kind) → HaveKinds tree about.owner variables args kinds
      → (expressions_count args ≡ length kinds) × (want_kinds about args kinds walk ≡ Ok (tt, walk))
  unfolding want_kinds
  want_kinds_complete walk agrees NoExpressions [] has = (refl, refl)
  want_kinds_complete walk agrees NoExpressions (kind ∷ kinds) has = absurd has
  want_kinds_complete walk agrees (AndExpressions e es) [] has = absurd has
  want_kinds_complete walk agrees (AndExpressions e es) (kind ∷ kinds) has =
      let rest = want_kinds_complete walk agrees es kinds has.1 in
      (ap suc rest.0, want_then_is about e kind (want_kinds about es kinds) walk walk tt (kind_complete tree about knows walk.scope variables agrees e kind has.0) rest.1)

  pub call_sound : (walk after : Walk) → Agrees walk.scope variables → (target service method : List ℕ) (args : Expressions) (x : Unit {0})
      → call_check about target service method args walk ≡ Ok (x, after)
      → (params : List Kind) × (gives : Kind) × HasMethod tree service method params gives × HaveKinds tree about.owner variables args params × variables target gives × (walk ≡ after)
  unfolding call_check
  call_sound walk after agrees target service method args x h =
      let first = here_then_ok about (or_rule UnknownCallee (callee_in about.declared service method)) _ walk after x h in
      let callee = first.0 in
      let count = here_then_ok about (unless WrongCount (nat_eq (expressions_count args) (length callee.params))) _ walk after x first.2 in
      let same = (Decides-eqb (expressions_count args) (length callee.params)).0 (unless_ok WrongCount (nat_eq (expressions_count args) (length callee.params)) count.0 count.1) in
      let parts = then_ok (want_kinds about args callee.params walk) (λ _. want_target about target callee.gives) x after count.2 in
      let kinds = want_kinds_sound walk parts.1 agrees args callee.params parts.0 same parts.2 in
      let last = want_target_ok about target callee.gives parts.1 after x parts.3 in
      let known : kind_named walk.scope target ≡ Some callee.gives = ap (λ (w : Walk). kind_named w.scope target) kinds.1 ∙ last.0 in (
        callee.params,
        callee.gives,
        knows.callee_found service method callee (or_rule_ok UnknownCallee (callee_in about.declared service method) callee first.1),
        kinds.0,
        agrees.found target callee.gives known,
        kinds.1 ∙ last.1,
      )

  pub call_complete : (walk : Walk) → Agrees walk.scope variables → (target service method : List ℕ) (args : Expressions) (params : List Kind) (gives : Kind)
      → HasMethod tree service method params gives → HaveKinds tree about.owner variables args params → variables target gives
      → call_check about target service method args walk ≡ Ok (tt, walk)
  unfolding call_check
  call_complete walk agrees target service method args params gives has given taken =
      let callee = knows.callee_there service method params gives has in
      let kinds = want_kinds_complete walk agrees args callee.0.params (subst (λ ps. HaveKinds tree about.owner variables args ps) (sym callee.2) given) in
      here_then_is about (or_rule UnknownCallee (callee_in about.declared service method)) _ walk walk callee.0 tt (ap (or_rule UnknownCallee) callee.1)
      (here_then_is about (unless WrongCount (nat_eq (expressions_count args) (length callee.0.params))) _ walk walk tt tt
      (ap (unless WrongCount) ((Decides-eqb (expressions_count args) (length callee.0.params)).1 kinds.0))
      (ap (λ found. then_at found (λ _. want_target about target callee.0.gives)) kinds.1
      ∙ want_target_is about target callee.0.gives walk (agrees.there target gives taken ∙ ap Some (sym callee.3))))
