use Rattle.std.proofs.Common.{◌≡◌, List, [], ◌∷◌, ◌++◌, map, Result, Ok, Err, OnOk, sym, ap, ◌∙◌, append_assoc}
use Rattle.std.proofs.lemmas.List.{map-append}
use Rattle.fb_base.specs.declared.method.MethodName.{MethodName}
use Rattle.fb_syntax.specs.Views.{view_block, view_handler, handlers_of}
use Rattle.fb_syntax.specs.ViewEquations.{view_if_alone, view_if_else, view_repeat, view_for, view_call}
use Rattle.fb_check.specs.declared.declarations.Declarations.{Declarations}
use Rattle.fb_check.specs.Sites.{sites, handler_sites, callee_number, callee_numbers}
use Rattle.fb_check.proofs.declarations.Declarations.+sites.Goals as goal

on_ok : {A E : Type 0} (result : Result A E) (P Q : Type 0) → (P → Q) → OnOk result P → OnOk result Q
on_ok (Ok x) P Q f p = f p
on_ok (Err e) P Q f p = tt

-- what is found behind what is found
both_found : (declared : Declarations) (before between after : List _) (first second : List MethodName) → between ≡ before ++ callee_numbers declared first
    → after ≡ between ++ callee_numbers declared second → after ≡ before ++ callee_numbers declared (first ++ second)
both_found declared before between after first second one two =
    two ∙ ap (λ found. found ++ callee_numbers declared second) one
    ∙ append_assoc before (callee_numbers declared first) (callee_numbers declared second)
    ∙ ap (λ more. before ++ more) (sym (map-append (callee_number declared) first second))

pub add_statement_sites-returns-in-Some : goal.add_statement_sites-returns-in-Some
add_statement_sites-returns-in-Some t c =
    let one = sites (view_block c.in-If.yes) in
    let other = sites (view_block c.in-Some.no) in
    rw (c.in-If.is, c.in-Some.is, view_if_else c.in-If.cond c.in-If.yes c.in-Some.no)
    (on_ok c.add_sites-in-Some.result (c.add_sites-in-Some.new.found ≡ c.add_sites.new.found ++ callee_numbers c.args.self.now other) _
    (both_found c.args.self.now c.args.found.now c.add_sites.new.found c.add_sites-in-Some.new.found one other c.in_ok-add_sites-in-If.ensures) c.add_sites-in-Some.ensures)

pub add_statement_sites-returns-in-None : goal.add_statement_sites-returns-in-None
add_statement_sites-returns-in-None t c =
    rw (c.in-If.is, c.in-None.is, view_if_alone c.in-If.cond c.in-If.yes) c.in_ok-add_sites-in-If.ensures

pub add_statement_sites-returns-in-Repeat : goal.add_statement_sites-returns-in-Repeat
add_statement_sites-returns-in-Repeat t c = rw (c.in-Repeat.is, view_repeat c.in-Repeat.times c.in-Repeat.body) c.add_sites-in-Repeat.ensures

pub add_statement_sites-returns-in-For : goal.add_statement_sites-returns-in-For
add_statement_sites-returns-in-For t c = rw (c.in-For.is, view_for c.in-For.name c.in-For.over c.in-For.body) c.add_sites-in-For.ensures

pub add_statement_sites-returns-in_ok-push-in-Call : goal.add_statement_sites-returns-in_ok-push-in-Call
add_statement_sites-returns-in_ok-push-in-Call t c =
    let site : MethodName = record { service = c.in-Call.service; method = c.in-Call.method } in
    let rest = handler_sites (handlers_of (map view_handler c.in-Call.handlers.items)) in
    rw (c.in-Call.is, view_call c.in-Call.name c.in-Call.service c.in-Call.method c.in-Call.args c.in-Call.handlers)
    (on_ok c.add_handler_sites.result (c.add_handler_sites.new.found ≡ c.push.new.self ++ callee_numbers c.args.self.now rest) _
    (both_found c.args.self.now c.args.found.now c.push.new.self c.add_handler_sites.new.found (site ∷ []) rest
    (c.in_ok-push-in-Call.ensures.ok ∙ ap (λ n. c.args.found.now ++ n ∷ []) c.number.ensures))
    (rw (← c.as_slice.ensures.value) c.add_handler_sites.ensures))
