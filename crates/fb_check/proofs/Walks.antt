-- How far a body is gone through: so many statements further, and the variables that there were stay.
use Rattle.std.proofs.Common.{◌≡◌, ℕ, ◌+◌, nat_eq, Bool, true, Option, Some, None, Result, Ok, Err, List, [], ◌∷◌, ◌++◌, length, take, refl, sym, ap, ◌∙◌, subst, append_assoc, append-nil, arith}
use Rattle.std.proofs.lemmas.List.{take_at}
use Rattle.fb_base.specs.declared.kind.Kind.{Kind}
use Rattle.fb_base.specs.declared.kind.Kind.TheVariants.{Bool as Boolean}
use Rattle.fb_base.specs.KindSame.{same_kind}
use Rattle.fb_syntax.specs.Trees.{Expression, Expressions, NoExpressions, AndExpressions, Statement, Let, Assign, If, IfElse, Repeat, For, Break, Return, Fail, Call, Assert, Statements, NoStatements, AndStatements, Handlers, NoHandlers, AndHandlers}
use Rattle.fb_syntax.specs.Counts.{summed, summed_all, summed_handlers, expressions_count}
use Rattle.fb_check.specs.declared.binding.Binding.{Binding}
use Rattle.fb_check.specs.declared.walk.Walk.{Walk}
use Rattle.fb_check.specs.declared.error.CheckRule.{CheckRule}
use Rattle.fb_check.specs.declared.error.CheckRule.TheVariants.{UnknownName, UnknownCallee, WrongKind, WrongCount, BreakOutside}
use Rattle.fb_check.specs.Scopes.{Scope, kind_named}
use Rattle.fb_check.specs.Declarations.{callee_in}
use Rattle.fb_check.specs.ExpressionKinds.{Context, or_rule, unless, in_test, in_method, kind_of}
use Rattle.fb_check.specs.Walking.{Walking, Refusal, ◌>>=◌, then_at, give, begin, within, here, kind_here, want_kind, want_kinds, want_target, declare, declared_if_new}
use Rattle.fb_base.specs.Kinds.{kind_of_item}
use Rattle.fb_check.specs.StatementChecks.{call_check, for_block_check, statement_check, statements_check, handlers_check}

-- ---- one after the other

ok_value : {A : Type 0} (x y : A) → ◌≡◌ {A = Result A Refusal} (Ok x) (Ok y) → x ≡ y
ok_value x y h = cc

pub found_first : {A : Type 0} (x y : A) (walk after : Walk) → ◌≡◌ {A = Result (A × Walk) Refusal} (Ok (x, walk)) (Ok (y, after)) → x ≡ y
found_first x y walk after h = ap (λ found. found.0) (ok_value (x, walk) (y, after) h)

pub found_second : {A : Type 0} (x y : A) (walk after : Walk) → ◌≡◌ {A = Result (A × Walk) Refusal} (Ok (x, walk)) (Ok (y, after)) → walk ≡ after
found_second x y walk after h = ap (λ found. found.1) (ok_value (x, walk) (y, after) h)

pub then_ok : {A B : Type 0} (first : Result (A × Walk) Refusal) (more : A → Walking B) (y : B) (after : Walk) → then_at first more ≡ Ok (y, after)
    → (x : A) × (mid : Walk) × (first ≡ Ok (x, mid)) × (more x mid ≡ Ok (y, after))
then_ok (Ok found) more y after h = (found.0, found.1, refl, h)
then_ok (Err refusal) more y after h = absurd (cc)

pub here_ok : {A : Type 0} (about : Context) (found : Result A CheckRule) (walk after : Walk) (x : A) → here about found walk ≡ Ok (x, after)
    → (found ≡ Ok x) × (walk ≡ after)
here_ok about (Ok y) walk after x h = (ap Ok (found_first y x walk after h), found_second y x walk after h)
here_ok about (Err rule) walk after x h = absurd (cc)

-- ---- so many statements further

pub record Went (count : ℕ) (before after : Walk) : Type 0 where
  pub counted : after.number ≡ before.number + count
  -- the variables that were declared since
  pub more : List Binding
  pub kept : after.scope ≡ before.scope ++ more

pub record Goes {A : Type 0} (count : ℕ) (walking : Walking A) : Type 0 where
  pub went : (walk after : Walk) (x : A) → walking walk ≡ Ok (x, after) → Went count walk after

-- the variables that were there before are those that are left
pub scope_left : (count : ℕ) (before after : Walk) → Went count before after → take (length before.scope) after.scope ≡ before.scope
scope_left count before after went = ap (take (length before.scope)) went.kept ∙ take_at before.scope went.more (length before.scope) refl

pub goes_as : {A : Type 0} (m n : ℕ) (walking : Walking A) → m ≡ n → Goes m walking → Goes n walking
goes_as m n walking same goes = subst (λ k. Goes k walking) same goes

stays_at : (walk after : Walk) → walk ≡ after → Went 0 walk after
stays_at walk after same = record {
  counted = ap (λ (w : Walk). w.number) (sym same) ∙ omega arith;
  more = [];
  kept = ap (λ (w : Walk). w.scope) (sym same) ∙ sym (append-nil walk.scope);
}

pub goes_give : {A : Type 0} (x : A) → Goes 0 (give x)
goes_give x = record { went = λ walk after y h. stays_at walk after (found_second x y walk after h) }

pub goes_here : {A : Type 0} (about : Context) (found : Result A CheckRule) → Goes 0 (here about found)
goes_here about found = record { went = λ walk after x h. stays_at walk after (here_ok about found walk after x h).1 }

-- after a statement has begun
begun : (walk after : Walk) → record walk { number = walk.number + 1 } ≡ after → Went 1 walk after
begun walk after same = record {
  counted = ap (λ (w : Walk). w.number) (sym same);
  more = [];
  kept = ap (λ (w : Walk). w.scope) (sym same) ∙ sym (append-nil walk.scope);
}

pub goes_begin : Goes 1 begin
goes_begin = record { went = λ walk after x h. begun walk after (found_second tt x (record walk { number = walk.number + 1 }) after h) }

goes_on : (m n : ℕ) (walk mid after : Walk) → Went m walk mid → Went n mid after → Went (m + n) walk after
goes_on m n walk mid after first second = record {
  counted = omega (arith, first.counted, second.counted);
  more = first.more ++ second.more;
  kept = second.kept ∙ ap (λ scope. scope ++ second.more) first.kept ∙ append_assoc walk.scope first.more second.more;
}

pub goes_then : {A B : Type 0} (m n : ℕ) (first : Walking A) (more : A → Walking B) → Goes m first → ((x : A) → Goes n (more x)) → Goes (m + n) (first >>= more)
goes_then m n first more one two = record {
  went = λ walk after y h. (
      let parts = then_ok (first walk) more y after h in
      goes_on m n walk parts.1 after (one.went walk parts.1 parts.0 parts.2) ((two parts.0).went parts.1 after y parts.3)
      );
}

within_ok : {A : Type 0} (n : ℕ) (found : Result (A × Walk) Refusal) (walk after : Walk) (x : A)
    → then_at found (λ y inner. Ok (y, record inner { scope = walk.scope })) ≡ Ok (x, after)
    → ((inner : Walk) (y : A) → found ≡ Ok (y, inner) → Went n walk inner) → Went n walk after
within_ok n found walk after x h went =
    let parts = then_ok found (λ y inner. Ok (y, record inner { scope = walk.scope })) x after h in
    let inside = went parts.1 parts.0 parts.2 in
    let left = found_second parts.0 x (record parts.1 { scope = walk.scope }) after parts.3 in
    record {
      counted = ap (λ (w : Walk). w.number) (sym left) ∙ inside.counted;
      more = [];
      kept = ap (λ (w : Walk). w.scope) (sym left) ∙ sym (append-nil walk.scope);
    }

pub goes_within : {A : Type 0} (n : ℕ) (inside : Walking A) → Goes n inside → Goes n (within inside)
goes_within n inside goes = record {
  went = λ walk after x h. within_ok n (inside walk) walk after x h (λ inner y is. goes.went walk inner y is);
}

-- ---- the parts of a statement

module _ (about : Context) where
  goes_kind : (e : Expression) → Goes 0 (kind_here about e)
  goes_kind e = record { went = λ walk after x h. (goes_here about (kind_of about walk.scope e)).went walk after x h }

  goes_want_kind : (e : Expression) (wanted : Kind) → Goes 0 (want_kind about e wanted)
  unfolding want_kind
  goes_want_kind e wanted =
      goes_then 0 0 (kind_here about e) _ (goes_kind e) (λ found. goes_here about (unless WrongKind (same_kind found wanted)))

  goes_want_target : (name : List ℕ) (given : Kind) → Goes 0 (want_target about name given)
  unfolding want_target
  goes_want_target name given = record {
    went = λ walk after x h.
        (goes_then 0 0 (here about (or_rule UnknownName (kind_named walk.scope name))) _
        (goes_here about (or_rule UnknownName (kind_named walk.scope name)))
        (λ found. goes_here about (unless WrongKind (same_kind given found)))).went walk after x h;
  }

  goes_want_kinds : (args : Expressions) (kinds : List Kind) → Goes 0 (want_kinds about args kinds)
  unfolding want_kinds
  goes_want_kinds NoExpressions kinds = goes_give tt
  goes_want_kinds (AndExpressions e es) [] = goes_give tt
  goes_want_kinds (AndExpressions e es) (kind ∷ kinds) =
      goes_then 0 0 (want_kind about e kind) _ (goes_want_kind e kind) (λ _. goes_want_kinds es kinds)

  declares : (found : Option Kind) (name : List ℕ) (kind : Kind) (walk after : Walk) (x : Unit {0}) → declared_if_new about found name kind walk ≡ Ok (x, after) → Went 0 walk after
  declares (Some k) name kind walk after x h = absurd (cc)
  declares None name kind walk after x h =
      let declared = found_second tt x (record walk { scope = walk.scope ++ record { name = name; kind = kind } ∷ [] }) after h in
      record {
        counted = ap (λ (w : Walk). w.number) (sym declared) ∙ omega arith;
        more = record { name = name; kind = kind } ∷ [];
        kept = ap (λ (w : Walk). w.scope) (sym declared);
      }

  pub goes_declare : (name : List ℕ) (kind : Kind) → Goes 0 (declare about name kind)
  unfolding declare
  goes_declare name kind = record { went = λ walk after x h. declares (kind_named walk.scope name) name kind walk after x h }

  goes_call : (target service method : List ℕ) (args : Expressions) → Goes 0 (call_check about target service method args)
  unfolding call_check
  goes_call target service method args =
      goes_then 0 0 (here about (or_rule UnknownCallee (callee_in about.declared service method))) _
      (goes_here about (or_rule UnknownCallee (callee_in about.declared service method)))
      (λ callee. goes_then 0 0 (here about (unless WrongCount (nat_eq (expressions_count args) (length callee.params)))) _
      (goes_here about (unless WrongCount (nat_eq (expressions_count args) (length callee.params))))
      (λ _. goes_then 0 0 (want_kinds about args callee.params) _ (goes_want_kinds args callee.params)
      (λ _. goes_want_target target callee.gives)))

  -- ---- statements

  abbrev one : Statement → ℕ
  one s = 1

  mutual
    unfolding statement_check statements_check handlers_check

    pub goes_statement : (looping : Bool) (s : Statement) → Goes (summed one s) (statement_check about looping s)
    goes_statement looping (Let name value) =
        goes_then 1 0 begin _ goes_begin (λ _. goes_then 0 0 (kind_here about value) _ (goes_kind value) (λ found. goes_declare name found))
    goes_statement looping (Assign name value) =
        goes_then 1 0 begin _ goes_begin (λ _. goes_then 0 0 (kind_here about value) _ (goes_kind value) (λ found. goes_want_target name found))
    goes_statement looping (If cond body) =
        goes_then 1 (summed_all one body) begin _ goes_begin (λ _. goes_as (0 + summed_all one body) (summed_all one body) _ (omega arith)
        (goes_then 0 (summed_all one body) (want_kind about cond Boolean) _ (goes_want_kind cond Boolean)
        (λ _. goes_within (summed_all one body) _ (goes_statements looping body))))
    goes_statement looping (IfElse cond body other) =
        goes_as (1 + (0 + (summed_all one body + summed_all one other))) (1 + summed_all one body + summed_all one other) _ (omega arith)
        (goes_then 1 (0 + (summed_all one body + summed_all one other)) begin _ goes_begin
        (λ _. goes_then 0 (summed_all one body + summed_all one other) (want_kind about cond Boolean) _ (goes_want_kind cond Boolean)
        (λ _. goes_then (summed_all one body) (summed_all one other) (within (statements_check about looping body)) _
        (goes_within (summed_all one body) _ (goes_statements looping body))
        (λ _. goes_within (summed_all one other) _ (goes_statements looping other)))))
    goes_statement looping (Repeat times body) =
        goes_then 1 (summed_all one body) begin _ goes_begin (λ _. goes_within (summed_all one body) _ (goes_statements true body))
    goes_statement looping (For name over body) =
        goes_as (1 + (0 + (0 + (0 + summed_all one body)))) (1 + summed_all one body) _ (omega arith)
        (goes_then 1 (0 + (0 + (0 + summed_all one body))) begin _ goes_begin
        (λ _. goes_then 0 (0 + (0 + summed_all one body)) (kind_here about over) _ (goes_kind over)
        (λ found. goes_then 0 (0 + summed_all one body) (here about (or_rule WrongKind (kind_of_item found))) _ (goes_here about (or_rule WrongKind (kind_of_item found)))
        (λ item. goes_within (0 + summed_all one body) _
        (goes_then 0 (summed_all one body) (declare about name item) _ (goes_declare name item) (λ _. goes_statements true body))))))
    goes_statement looping Break = goes_then 1 0 begin _ goes_begin (λ _. goes_here about (unless BreakOutside looping))
    goes_statement looping (Return value) =
        goes_then 1 0 begin _ goes_begin (λ _. goes_then 0 0 (here about (in_method about.owner)) _ (goes_here about (in_method about.owner)) (λ gives. goes_want_kind value gives))
    goes_statement looping (Fail code) =
        goes_then 1 0 begin _ goes_begin (λ _. goes_then 0 0 (here about (in_method about.owner)) _ (goes_here about (in_method about.owner)) (λ _. goes_give tt))
    goes_statement looping (Call target service method args handlers) =
        goes_as (1 + (0 + summed_handlers one handlers)) (1 + summed_handlers one handlers) _ (omega arith)
        (goes_then 1 (0 + summed_handlers one handlers) begin _ goes_begin
        (λ _. goes_then 0 (summed_handlers one handlers) (call_check about target service method args) _ (goes_call target service method args)
        (λ _. goes_handlers looping handlers)))
    goes_statement looping (Assert cond) =
        goes_then 1 0 begin _ goes_begin (λ _. goes_then 0 0 (here about (in_test about.owner)) _ (goes_here about (in_test about.owner)) (λ _. goes_want_kind cond Boolean))

    pub goes_statements : (looping : Bool) (ss : Statements) → Goes (summed_all one ss) (statements_check about looping ss)
    goes_statements looping NoStatements = goes_give tt
    goes_statements looping (AndStatements s ss) =
        goes_then (summed one s) (summed_all one ss) (statement_check about looping s) _ (goes_statement looping s) (λ _. goes_statements looping ss)

    pub goes_handlers : (looping : Bool) (handlers : Handlers) → Goes (summed_handlers one handlers) (handlers_check about looping handlers)
    goes_handlers looping NoHandlers = goes_give tt
    goes_handlers looping (AndHandlers code body handlers) =
        goes_then (summed_all one body) (summed_handlers one handlers) (within (statements_check about looping body)) _
        (goes_within (summed_all one body) _ (goes_statements looping body))
        (λ _. goes_handlers looping handlers)

  pub goes_for_block : (name : List ℕ) (item : Kind) (body : Statements) → Goes (summed_all one body) (for_block_check about name item (statements_check about true body))
  goes_for_block name item body =
      goes_as (0 + summed_all one body) (summed_all one body) _ (omega arith)
      (goes_then 0 (summed_all one body) (declare about name item) _ (goes_declare name item) (λ _. goes_statements true body))

abbrev left_with : Walk → Scope → Result (Unit {0} × Walk) Refusal
left_with after scope = Ok (tt, record after { scope = scope })

-- ---- what is within a block, once the variables behind those before it have ended
pub within_is : (n : ℕ) (inside : Walking (Unit {0})) (walk after : Walk) (scope : Scope) (len : ℕ) → Goes n inside → inside walk ≡ Ok (tt, after)
    → len ≡ length walk.scope → scope ≡ take len after.scope → within inside walk ≡ Ok (tt, record after { scope = scope })
within_is n inside walk after scope len goes ran counted left =
    let same : scope ≡ walk.scope = left ∙ ap (λ k. take k after.scope) counted ∙ scope_left n walk after (goes.went walk after tt ran) in
    ap (λ found. then_at found (λ x inner. Ok (x, record inner { scope = walk.scope }))) ran
    ∙ ap (λ (s : Scope). left_with after s) (sym same)
