-- A statement is well formed exactly where its check finds nothing.
use Rattle.std.proofs.Common.{◌≡◌, ◌+◌, Bool, true, [], ◌∷◌, ◌++◌, Some, Result, Ok, refl, sym, ap, ◌∙◌, subst}
use Rattle.fb_base.specs.declared.kind.Kind.{Kind}
use Rattle.fb_base.specs.declared.kind.Kind.TheVariants.{Int, Bool as Boolean, Text, Ints, Bools, Texts}
use Rattle.fb_base.specs.Kinds.{kind_of_list, kind_of_item}
use Rattle.fb_syntax.specs.Trees.{Statement, Let, Assign, If, IfElse, Repeat, For, Break, Return, Fail, Call, Assert, Statements, NoStatements, AndStatements, Handlers, NoHandlers, AndHandlers, ServicesTree}
use Rattle.fb_check.specs.declared.walk.Walk.{Walk}
use Rattle.fb_check.specs.declared.owner.Owner.{Owner}
use Rattle.fb_check.specs.declared.owner.Owner.TheVariants as owner
use Rattle.fb_check.specs.declared.error.CheckRule.{CheckRule}
use Rattle.fb_check.specs.declared.error.CheckRule.TheVariants.{WrongKind, BreakOutside}
use Rattle.fb_check.specs.Scopes.{Scope}
use Rattle.fb_check.specs.ExpressionKinds.{Context, or_rule, unless, in_test, in_method, kind_of}
use Rattle.fb_check.specs.Walking.{Walking, Refusal, ◌>>=◌, then_at, within, declare}
use Rattle.fb_check.specs.StatementChecks.{call_check, for_block_check, statement_check, statements_check, handlers_check}
use Rattle.fb_check.specs.Accepted.{Variables, with_variable, HasKind, behind, Fits, BlockFits, HandlersFit}
use Rattle.fb_check.proofs.Walks.{then_ok, found_second}
use Rattle.fb_check.proofs.KindLaws.{Agrees, Knows, or_rule_ok, unless_ok, in_test_ok, kind_sound, kind_complete}
use Rattle.fb_check.proofs.ScopeLaws.{new_name, name_new, agrees-declare}
use Rattle.fb_check.proofs.PartLaws.{here_then_ok, here_then_is, here_last_ok, here_last_is, want_kind_ok, want_kind_is, want_then_ok, want_then_is, want_target_ok, want_target_is, declare_ok, declare_is, call_sound, call_complete}

-- ---- parts

ok_unit : {A : Type 0} (more : Walking A) (found : Result (Unit {0} × Walk) Refusal) (walk : Walk) → found ≡ Ok (tt, walk) → then_at found (λ _. more) ≡ more walk
ok_unit more found walk is = ap (λ f. then_at f (λ _. more)) is

-- what is within leaves the variables that were there
within_ok : (inside : Walking (Unit {0})) (walk after : Walk) (x : Unit {0}) → within inside walk ≡ Ok (x, after) → (inner : Walk) × (inside walk ≡ Ok (tt, inner)) × (walk.scope ≡ after.scope)
within_ok inside walk after x h =
    let parts = then_ok (inside walk) (λ y inner. Ok (y, record inner { scope = walk.scope })) x after h in
    (parts.1, parts.2, ap (λ (w : Walk). w.scope) (found_second parts.0 x (record parts.1 { scope = walk.scope }) after parts.3))

within_is : (inside : Walking (Unit {0})) (walk inner : Walk) → inside walk ≡ Ok (tt, inner) → within inside walk ≡ Ok (tt, record inner { scope = walk.scope })
within_is inside walk inner is = ap (λ found. then_at found (λ x after. Ok (x, record after { scope = walk.scope }))) is

-- the item's kind, and the list's
item_of : (list item : Kind) → kind_of_item list ≡ Some item → kind_of_list item ≡ Some list
item_of Int item is = absurd (cc)
item_of Boolean item is = absurd (cc)
item_of Text item is = absurd (cc)
item_of Ints item is = let same : item ≡ Int = cc in ap kind_of_list same
item_of Bools item is = let same : item ≡ Boolean = cc in ap kind_of_list same
item_of Texts item is = let same : item ≡ Text = cc in ap kind_of_list same

list_of : (list item : Kind) → kind_of_list item ≡ Some list → kind_of_item list ≡ Some item
list_of list Int is = let same : list ≡ Ints = cc in ap kind_of_item same
list_of list Boolean is = let same : list ≡ Bools = cc in ap kind_of_item same
list_of list Text is = let same : list ≡ Texts = cc in ap kind_of_item same
list_of list Ints is = absurd (cc)
list_of list Bools is = absurd (cc)
list_of list Texts is = absurd (cc)

in_method_ok : (whose : Owner) (kind : Kind) → in_method whose ≡ Ok kind → whose ≡ owner.Method kind
in_method_ok (owner.Method gives) kind is = let same : gives ≡ kind = cc in ap owner.Method same
in_method_ok owner.Test kind is = absurd (cc)

ok_same : (a b : Kind) → ◌≡◌ {A = Result Kind CheckRule} (Ok a) (Ok b) → b ≡ a
ok_same a b h = cc

-- ---- statements

module _ (tree : ServicesTree) (about : Context) (knows : Knows about.declared tree) where
  -- nothing is found, and the variables behind are those that the walk then has
  record Found (looping : Bool) (variables : Variables) (s : Statement) (after : Walk) : Type 0 where
    fits : Fits tree about.owner looping variables s
    agrees : Agrees after.scope (behind tree about.owner variables s)

  agrees_after : (variables : Variables) (walk after : Walk) → walk ≡ after → Agrees walk.scope variables → Agrees after.scope variables
  agrees_after variables walk after same agrees = subst (λ (w : Walk). Agrees w.scope variables) same agrees

  agrees_scope : (variables : Variables) (scope after : Scope) → scope ≡ after → Agrees scope variables → Agrees after variables
  agrees_scope variables scope after same agrees = subst (λ (s : Scope). Agrees s variables) same agrees

  mutual
    unfolding statement_check statements_check handlers_check

    statement_sound : (looping : Bool) (variables : Variables) (s : Statement) (walk after : Walk) (x : Unit {0}) → Agrees walk.scope variables
        → statement_check about looping s walk ≡ Ok (x, after) → Found looping variables s after
    statement_sound looping variables (Let name value) walk after x agrees h =
        let first = here_then_ok about (kind_of about walk.scope value) _ (record walk { number = walk.number + 1 }) after x h in
        let last = declare_ok about name first.0 (record walk { number = walk.number + 1 }) after x first.2 in
        let has = kind_sound tree about knows walk.scope variables agrees value first.0 first.1 in
        record {
          fits = (new_name walk.scope variables agrees name last.0, (first.0, has));
          agrees = agrees_scope (behind tree about.owner variables (Let name value)) _ after.scope (sym last.1)
              (agrees-declare walk.scope variables agrees name first.0 last.0 (HasKind tree about.owner variables value) has
              (λ other also. ok_same first.0 other (sym first.1 ∙ kind_complete tree about knows walk.scope variables agrees value other also)));
        }
    statement_sound looping variables (Assign name value) walk after x agrees h =
        let first = here_then_ok about (kind_of about walk.scope value) _ (record walk { number = walk.number + 1 }) after x h in
        let last = want_target_ok about name first.0 (record walk { number = walk.number + 1 }) after x first.2 in
        record {
          fits = (first.0, kind_sound tree about knows walk.scope variables agrees value first.0 first.1, agrees.found name first.0 last.0);
          agrees = agrees_after variables (record walk { number = walk.number + 1 }) after last.1 agrees;
        }
    statement_sound looping variables (If cond body) walk after x agrees h =
        let first = want_then_ok about cond Boolean (within (statements_check about looping body)) (record walk { number = walk.number + 1 }) after x h in
        let inside = within_ok (statements_check about looping body) (record walk { number = walk.number + 1 }) after x first.1 in
        record {
          fits = (
            kind_sound tree about knows walk.scope variables agrees cond Boolean first.0,
            block_sound looping variables body (record walk { number = walk.number + 1 }) inside.0 agrees inside.1,
          );
          agrees = agrees_scope variables walk.scope after.scope inside.2 agrees;
        }
    statement_sound looping variables (IfElse cond body other) walk after x agrees h =
        let begun = record walk { number = walk.number + 1 } in
        let first = want_then_ok about cond Boolean (within (statements_check about looping body) >>= λ _. within (statements_check about looping other)) begun after x h in
        let parts = then_ok (within (statements_check about looping body) begun) (λ _. within (statements_check about looping other)) x after first.1 in
        let inside = within_ok (statements_check about looping body) begun parts.1 parts.0 parts.2 in
        let between = agrees_scope variables walk.scope parts.1.scope inside.2 agrees in
        let elsewhere = within_ok (statements_check about looping other) parts.1 after x parts.3 in
        record {
          fits = (
            kind_sound tree about knows walk.scope variables agrees cond Boolean first.0,
            block_sound looping variables body begun inside.0 agrees inside.1,
            block_sound looping variables other parts.1 elsewhere.0 between elsewhere.1,
          );
          agrees = agrees_scope variables parts.1.scope after.scope elsewhere.2 between;
        }
    statement_sound looping variables (Repeat times body) walk after x agrees h =
        let inside = within_ok (statements_check about true body) (record walk { number = walk.number + 1 }) after x h in
        record {
          fits = block_sound true variables body (record walk { number = walk.number + 1 }) inside.0 agrees inside.1;
          agrees = agrees_scope variables walk.scope after.scope inside.2 agrees;
        }
    statement_sound looping variables (For name over body) walk after x agrees h =
        let begun = record walk { number = walk.number + 1 } in
        let first = here_then_ok about (kind_of about walk.scope over) _ begun after x h in
        let second = here_then_ok about (or_rule WrongKind (kind_of_item first.0)) _ begun after x first.2 in
        let item = second.0 in
        let inside = within_ok (for_block_check about name item (statements_check about true body)) begun after x second.2 in
        let parts = then_ok (declare about name item begun) (λ _. statements_check about true body) tt inside.0 inside.1 in
        let declared = declare_ok about name item begun parts.1 parts.0 parts.2 in
        let within_agrees = agrees_scope (with_variable name (λ kind. kind ≡ item) variables) _ parts.1.scope (sym declared.1)
        (agrees-declare walk.scope variables agrees name item declared.0 (λ kind. kind ≡ item) refl (λ other same. same)) in
        record {
          fits = (
            first.0,
            item,
            kind_sound tree about knows walk.scope variables agrees over first.0 first.1,
            item_of first.0 item (or_rule_ok WrongKind (kind_of_item first.0) item second.1),
            new_name walk.scope variables agrees name declared.0,
            block_sound true (with_variable name (λ kind. kind ≡ item) variables) body parts.1 inside.0 within_agrees parts.3,
          );
          agrees = agrees_scope variables walk.scope after.scope inside.2 agrees;
        }
    statement_sound looping variables Break walk after x agrees h =
        let last = here_last_ok about (unless BreakOutside looping) (record walk { number = walk.number + 1 }) after x h in
        record { fits = unless_ok BreakOutside looping x last.0; agrees = agrees_after variables (record walk { number = walk.number + 1 }) after last.1 agrees }
    statement_sound looping variables (Return value) walk after x agrees h =
        let first = here_then_ok about (in_method about.owner) _ (record walk { number = walk.number + 1 }) after x h in
        let last = want_kind_ok about value first.0 (record walk { number = walk.number + 1 }) after x first.2 in
        record {
          fits = (first.0, in_method_ok about.owner first.0 first.1, kind_sound tree about knows walk.scope variables agrees value first.0 last.0);
          agrees = agrees_after variables (record walk { number = walk.number + 1 }) after last.1 agrees;
        }
    statement_sound looping variables (Fail code) walk after x agrees h =
        let first = here_then_ok about (in_method about.owner) _ (record walk { number = walk.number + 1 }) after x h in
        record {
          fits = (first.0, in_method_ok about.owner first.0 first.1);
          agrees = agrees_after variables (record walk { number = walk.number + 1 }) after (found_second tt x (record walk { number = walk.number + 1 }) after first.2) agrees;
        }
    statement_sound looping variables (Call target service method args handlers) walk after x agrees h =
        let begun = record walk { number = walk.number + 1 } in
        let parts = then_ok (call_check about target service method args begun) (λ _. handlers_check about looping handlers) x after h in
        let called = call_sound tree about knows variables begun parts.1 agrees target service method args parts.0 parts.2 in
        let between = agrees_after variables begun parts.1 called.5 agrees in
        let rest = handlers_sound looping variables handlers parts.1 after x between parts.3 in
        record { fits = (called.0, called.1, called.2, called.3, called.4, rest.0); agrees = rest.1 }
    statement_sound looping variables (Assert cond) walk after x agrees h =
        let first = here_then_ok about (in_test about.owner) _ (record walk { number = walk.number + 1 }) after x h in
        let last = want_kind_ok about cond Boolean (record walk { number = walk.number + 1 }) after x first.2 in
        record {
          fits = (in_test_ok about.owner first.0 first.1, kind_sound tree about knows walk.scope variables agrees cond Boolean last.0);
          agrees = agrees_after variables (record walk { number = walk.number + 1 }) after last.1 agrees;
        }

    pub block_sound : (looping : Bool) (variables : Variables) (ss : Statements) (walk after : Walk) → Agrees walk.scope variables
        → statements_check about looping ss walk ≡ Ok (tt, after) → BlockFits tree about.owner looping variables ss
    block_sound looping variables NoStatements walk after agrees h = tt
    block_sound looping variables (AndStatements s ss) walk after agrees h =
        let parts = then_ok (statement_check about looping s walk) (λ _. statements_check about looping ss) tt after h in
        let first = statement_sound looping variables s walk parts.1 parts.0 agrees parts.2 in
        (first.fits, block_sound looping (behind tree about.owner variables s) ss parts.1 after first.agrees parts.3)

    handlers_sound : (looping : Bool) (variables : Variables) (handlers : Handlers) (walk after : Walk) (x : Unit {0}) → Agrees walk.scope variables
        → handlers_check about looping handlers walk ≡ Ok (x, after) → HandlersFit tree about.owner looping variables handlers × Agrees after.scope variables
    handlers_sound looping variables NoHandlers walk after x agrees h = (tt, agrees_after variables walk after (found_second tt x walk after h) agrees)
    handlers_sound looping variables (AndHandlers code body handlers) walk after x agrees h =
        let parts = then_ok (within (statements_check about looping body) walk) (λ _. handlers_check about looping handlers) x after h in
        let inside = within_ok (statements_check about looping body) walk parts.1 parts.0 parts.2 in
        let rest = handlers_sound looping variables handlers parts.1 after x (agrees_scope variables walk.scope parts.1.scope inside.2 agrees) parts.3 in
        ((block_sound looping variables body walk inside.0 agrees inside.1, rest.0), rest.1)

  -- the check finds nothing, and the walk then has the variables behind
  Passed : (looping : Bool) (variables : Variables) (s : Statement) (walk : Walk) → Type 0
  Passed looping variables s walk =
      (after : Walk) × (statement_check about looping s walk ≡ Ok (tt, after)) × Agrees after.scope (behind tree about.owner variables s)

  mutual
    unfolding Passed statement_check statements_check handlers_check

    statement_complete : (looping : Bool) (variables : Variables) (s : Statement) (walk : Walk) → Agrees walk.scope variables → Fits tree about.owner looping variables s → Passed looping variables s walk
    statement_complete looping variables (Let name value) walk agrees fits =
        let begun = record walk { number = walk.number + 1 } in
        let kind = fits.1.0 in
        let is = kind_complete tree about knows walk.scope variables agrees value kind fits.1.1 in
        let none = name_new walk.scope variables agrees name fits.0 in (
          record begun { scope = walk.scope ++ record { name = name; kind = kind } ∷ [] },
          here_then_is about (kind_of about walk.scope value) _ begun _ kind tt is (declare_is about name kind begun none),
          agrees-declare walk.scope variables agrees name kind none (HasKind tree about.owner variables value) fits.1.1
              (λ other also. ok_same kind other (sym is ∙ kind_complete tree about knows walk.scope variables agrees value other also)),
        )
    statement_complete looping variables (Assign name value) walk agrees fits =
        let begun = record walk { number = walk.number + 1 } in (
          begun,
          here_then_is about (kind_of about walk.scope value) _ begun begun fits.0 tt (kind_complete tree about knows walk.scope variables agrees value fits.0 fits.1)
              (want_target_is about name fits.0 begun (agrees.there name fits.0 fits.2)),
          agrees,
        )
    statement_complete looping variables (If cond body) walk agrees fits =
        let begun = record walk { number = walk.number + 1 } in
        let inside = block_complete looping variables body begun agrees fits.1 in (
          record inside.0 { scope = walk.scope },
          want_then_is about cond Boolean (within (statements_check about looping body)) begun _ tt (kind_complete tree about knows walk.scope variables agrees cond Boolean fits.0)
              (within_is (statements_check about looping body) begun inside.0 inside.1),
          agrees,
        )
    statement_complete looping variables (IfElse cond body other) walk agrees fits =
        let begun = record walk { number = walk.number + 1 } in
        let inside = block_complete looping variables body begun agrees fits.1 in
        let between = record inside.0 { scope = walk.scope } in
        let elsewhere = block_complete looping variables other between agrees fits.2 in (
          record elsewhere.0 { scope = walk.scope },
          want_then_is about cond Boolean (within (statements_check about looping body) >>= λ _. within (statements_check about looping other)) begun _ tt
              (kind_complete tree about knows walk.scope variables agrees cond Boolean fits.0)
              (ok_unit (within (statements_check about looping other)) (within (statements_check about looping body) begun) between (within_is (statements_check about looping body) begun inside.0 inside.1)
              ∙ within_is (statements_check about looping other) between elsewhere.0 elsewhere.1),
          agrees,
        )
    statement_complete looping variables (Repeat times body) walk agrees fits =
        let begun = record walk { number = walk.number + 1 } in
        let inside = block_complete true variables body begun agrees fits in
        (record inside.0 { scope = walk.scope }, within_is (statements_check about true body) begun inside.0 inside.1, agrees)
    statement_complete looping variables (For name over body) walk agrees fits =
        let begun = record walk { number = walk.number + 1 } in
        let list = fits.0 in
        let item = fits.1 in
        let none = name_new walk.scope variables agrees name fits.4 in
        let declared = record begun { scope = walk.scope ++ record { name = name; kind = item } ∷ [] } in
        let inside = block_complete true (with_variable name (λ kind. kind ≡ item) variables) body declared
        (agrees-declare walk.scope variables agrees name item none (λ kind. kind ≡ item) refl (λ other same. same)) fits.5 in (
          record inside.0 { scope = walk.scope },
          here_then_is about (kind_of about walk.scope over) _ begun _ list tt (kind_complete tree about knows walk.scope variables agrees over list fits.2)
              (here_then_is about (or_rule WrongKind (kind_of_item list)) _ begun _ item tt (ap (or_rule WrongKind) (list_of list item fits.3))
              (within_is (for_block_check about name item (statements_check about true body)) begun inside.0
              (ok_unit (statements_check about true body) (declare about name item begun) declared (declare_is about name item begun none) ∙ inside.1))),
          agrees,
        )
    statement_complete looping variables Break walk agrees fits =
        let begun = record walk { number = walk.number + 1 } in
        (begun, here_last_is about (unless BreakOutside looping) begun tt (ap (unless BreakOutside) fits), agrees)
    statement_complete looping variables (Return value) walk agrees fits =
        let begun = record walk { number = walk.number + 1 } in (
          begun,
          here_then_is about (in_method about.owner) _ begun begun fits.0 tt (ap in_method fits.1)
              (want_kind_is about value fits.0 begun (kind_complete tree about knows walk.scope variables agrees value fits.0 fits.2)),
          agrees,
        )
    statement_complete looping variables (Fail code) walk agrees fits =
        let begun = record walk { number = walk.number + 1 } in
        (begun, here_then_is about (in_method about.owner) _ begun begun fits.0 tt (ap in_method fits.1) refl, agrees)
    statement_complete looping variables (Call target service method args handlers) walk agrees fits =
        let begun = record walk { number = walk.number + 1 } in
        let called = call_complete tree about knows variables begun agrees target service method args fits.0 fits.1 fits.2 fits.3 fits.4 in
        let rest = handlers_complete looping variables handlers begun agrees fits.5 in
        (rest.0, ok_unit (handlers_check about looping handlers) (call_check about target service method args begun) begun called ∙ rest.1, rest.2)
    statement_complete looping variables (Assert cond) walk agrees fits =
        let begun = record walk { number = walk.number + 1 } in (
          begun,
          here_then_is about (in_test about.owner) _ begun begun tt tt (ap in_test fits.0)
              (want_kind_is about cond Boolean begun (kind_complete tree about knows walk.scope variables agrees cond Boolean fits.1)),
          agrees,
        )

    pub block_complete : (looping : Bool) (variables : Variables) (ss : Statements) (walk : Walk) → Agrees walk.scope variables → BlockFits tree about.owner looping variables ss
        → (after : Walk) × (statements_check about looping ss walk ≡ Ok (tt, after))
    block_complete looping variables NoStatements walk agrees fits = (walk, refl)
    block_complete looping variables (AndStatements s ss) walk agrees fits =
        let first = statement_complete looping variables s walk agrees fits.0 in
        let rest = block_complete looping (behind tree about.owner variables s) ss first.0 first.2 fits.1 in
        (rest.0, ok_unit (statements_check about looping ss) (statement_check about looping s walk) first.0 first.1 ∙ rest.1)

    handlers_complete : (looping : Bool) (variables : Variables) (handlers : Handlers) (walk : Walk) → Agrees walk.scope variables → HandlersFit tree about.owner looping variables handlers
        → (after : Walk) × (handlers_check about looping handlers walk ≡ Ok (tt, after)) × Agrees after.scope variables
    handlers_complete looping variables NoHandlers walk agrees fits = (walk, refl, agrees)
    handlers_complete looping variables (AndHandlers code body handlers) walk agrees fits =
        let inside = block_complete looping variables body walk agrees fits.0 in
        let between = record inside.0 { scope = walk.scope } in
        let rest = handlers_complete looping variables handlers between agrees fits.1 in (
          rest.0,
          ok_unit (handlers_check about looping handlers) (within (statements_check about looping body) walk) between (within_is (statements_check about looping body) walk inside.0 inside.1) ∙ rest.1,
          rest.2,
        )
