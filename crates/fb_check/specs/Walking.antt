-- Going through a body, up to the first statement that breaks a rule.
use Rattle.std.specs.Prelude.{◌≡◌, ℕ, ◌+◌, Option, Some, None, Result, Ok, Err, ◌++◌, ◌∷◌, []}
use Rattle.std.specs.Prelude.{List}
use Rattle.fb_base.specs.declared.kind.Kind.{Kind}
use Rattle.fb_base.specs.KindSame.{same_kind}
use Rattle.fb_syntax.specs.Trees.{Expression, Expressions, NoExpressions, AndExpressions}
use Rattle.fb_check.specs.declared.place.Place.{Place}
use Rattle.fb_check.specs.declared.walk.Walk.{Walk}
use Rattle.fb_check.specs.declared.error.CheckRule.{CheckRule}
use Rattle.fb_check.specs.declared.error.CheckError.{CheckError}
use Rattle.fb_check.specs.declared.error.CheckError.TheVariants as errors
use Rattle.fb_check.specs.declared.error.CheckRule.TheVariants.{DuplicateName, UnknownName, WrongKind}
use Rattle.fb_check.specs.Scopes.{kind_named}
use Rattle.fb_check.specs.ExpressionKinds.{Context, or_rule, unless, kind_of}

-- the first rule that is broken, and where
pub record Refusal : Type 0 where
  pub place : Place
  pub rule : CheckRule

-- what is found from here on, and how far the body is then gone through; or the first refusal
abbrev pub Walking : Type 0 → Type 0
Walking A = Walk → Result (A × Walk) Refusal

-- what was returned, and the walk then, are what is found, unless memory ran out
abbrev pub Gives : {A : Type 0} → Walk → Result A CheckError → Result (A × Walk) Refusal → Type 0
Gives after (Ok x) found = found ≡ Ok (x, after)
Gives after (Err (errors.Refused place rule)) found = found ≡ Err (record { place = place; rule = rule })
Gives after (Err errors.Memory) found = Unit {0}

abbrev pub give : {A : Type 0} → A → Walking A
give x walk = Ok (x, walk)

abbrev pub then_at : {A B : Type 0} → Result (A × Walk) Refusal → (A → Walking B) → Result (B × Walk) Refusal
then_at (Ok found) more = more found.0 found.1
then_at (Err refusal) more = Err refusal

infixl 10 ◌>>=◌
abbrev pub ◌>>=◌ : {A B : Type 0} → Walking A → (A → Walking B) → Walking B
(walking >>= more) walk = then_at (walking walk) more

-- a statement begins
abbrev pub begin : Walking (Unit {0})
begin walk = Ok (tt, record walk { number = walk.number + 1 })

-- the variables that are declared inside end with it
abbrev pub within : {A : Type 0} → Walking A → Walking A
within inside walk = then_at (inside walk) (λ x after. Ok (x, record after { scope = walk.scope }))

-- at the statement that began last
abbrev pub refusal_at : Context → ℕ → CheckRule → Refusal
refusal_at about statement rule = record {
  place = record { service = about.service; method = about.method; statement = statement };
  rule = rule;
}

module _ (about : Context) where
  -- what is found without going on, or the rule that is broken here
  abbrev pub here : {A : Type 0} → Result A CheckRule → Walking A
  here (Ok x) walk = Ok (x, walk)
  here (Err rule) walk = Err (refusal_at about walk.number rule)

  abbrev pub kind_here : Expression → Walking Kind
  kind_here e walk = here (kind_of about walk.scope e) walk

  -- an expression of this kind
  unfoldable pub want_kind : Expression → Kind → Walking (Unit {0})
  want_kind e wanted = do
    found ← kind_here e
    here (unless WrongKind (same_kind found wanted))

  -- a variable of this kind, which takes a value
  unfoldable pub want_target : List ℕ → Kind → Walking (Unit {0})
  want_target name given walk = (do
    found ← here (or_rule UnknownName (kind_named walk.scope name))
    here (unless WrongKind (same_kind given found))) walk

  -- a variable, where none that was found has its name
  abbrev pub declared_if_new : Option Kind → List ℕ → Kind → Walking (Unit {0})
  declared_if_new (Some _) name kind walk = Err (refusal_at about walk.number DuplicateName)
  declared_if_new None name kind walk = Ok (tt, record walk { scope = walk.scope ++ record { name = name; kind = kind } ∷ [] })

  -- a new variable
  unfoldable pub declare : List ℕ → Kind → Walking (Unit {0})
  declare name kind walk = declared_if_new (kind_named walk.scope name) name kind walk

  -- each argument has the kind of its parameter
  unfoldable pub want_kinds : Expressions → List Kind → Walking (Unit {0})
  want_kinds NoExpressions kinds = give tt
  want_kinds (AndExpressions e es) [] = give tt
  want_kinds (AndExpressions e es) (kind ∷ kinds) = do
    _ ← want_kind e kind
    want_kinds es kinds
