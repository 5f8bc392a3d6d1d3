-- Services and tests for which runs are told by hand.
use Rattle.fb_base.specs.declared.items.Items.TheVariants as items
use Rattle.fb_base.specs.declared.kind.Kind.TheVariants as kind
use Rattle.fb_base.specs.declared.kind.Kind.{Kind}
use Rattle.fb_base.specs.declared.operator.Op2.TheVariants as op
use Rattle.fb_base.specs.declared.reply.Reply.TheVariants as reply
use Rattle.fb_base.specs.declared.reply.Reply.{Reply}
use Rattle.fb_base.specs.declared.value.Value.TheVariants as value
use Rattle.fb_base.specs.declared.value.Value.{Value}
use Rattle.fb_index.specs.Entry.{Occurrence}
use Rattle.fb_index.specs.declared.fault.Fault.{Fault}
use Rattle.fb_syntax.specs.Trees.{Expression, IntLiteral, BoolLiteral, Variable, ListLiteral, Length, Comparison, Chain, Disjunction, Injected, InjectedOn, NoExpressions}
use Rattle.fb_syntax.specs.Trees.{Parameter, MethodTree, ServiceTree, ServicesTree, TestTree}
use Rattle.fb_syntax.specs.Trees.{Statement, Let, Assign, If, Repeat, For, Break, Return, Fail, Call, Assert, Handlers, NoHandlers}
use Rattle.fb_syntax.specs.Views.{expressions_of, links_of, statements_of, handlers_of}
use Rattle.fb_tree.specs.Runs.{Tree, Invocation, CallList, NoCalls, AndCall, How, Faulted, Ran, TestRun}
use Rattle.fb_tree.specs.declared.asked.Asked.{Asked}
use Rattle.fb_tree.specs.declared.outcome.Outcome.TheVariants as outcome
use Rattle.fb_tree.specs.declared.outcome.Outcome.{Outcome}
use Rattle.std.specs.Prelude.{ℕ, pos, true, false, List, [], ◌∷◌, codes, Some, None}

-- ---- words

abbrev number : ℕ → Expression
number n = IntLiteral (pos n)

abbrev plus : Expression → Expression → Expression
plus left right = Chain left (links_of ((op.Add, right) ∷ []))

abbrev equals : Expression → Expression → Expression
equals left right = Comparison op.Eq left right

abbrev either : Expression → Expression → Expression
either left right = Disjunction (expressions_of (left ∷ right ∷ []))

abbrev on_any : List Statement → Handlers
on_any body = handlers_of ((None, statements_of body) ∷ [])

abbrev on_code : List ℕ → List Statement → Handlers
on_code code body = handlers_of ((Some code, statements_of body) ∷ [])

abbrev call_of : List ℕ → List ℕ → List ℕ → List Expression → Handlers → Statement
call_of target service method args handlers = Call target service method (expressions_of args) handlers

abbrev method_of : List ℕ → List Parameter → Kind → List Statement → MethodTree
method_of name params gives body = record { name = name; params = params; gives = gives; body = statements_of body }

abbrev parameter : List ℕ → Kind → Parameter
parameter name of = record { name = name; kind = of }

abbrev service_of : List ℕ → MethodTree → ServiceTree
service_of name method = record { name = name; methods = method ∷ [] }

abbrev pub services_of : List ServiceTree → ServicesTree
services_of list = record { services = list }

abbrev test_of : List Statement → TestTree
test_of body = record { name = codes "t"; body = statements_of body }

-- ---- a price, and who asks for it

-- service price { method get(id: int) -> int { return id * 10; } }
abbrev pub price : ServiceTree
price = service_of (codes "price") (method_of (codes "get") (parameter (codes "id") kind.Int ∷ []) kind.Int
    (Return (Chain (Variable (codes "id")) (links_of ((op.Mul, number 10) ∷ []))) ∷ []))

-- method total(id: int) -> int { let p = 0; call p = price.get(id) on any { p = 5; } return p; }
abbrev pub cart : ServiceTree
cart = service_of (codes "cart") (method_of (codes "total") (parameter (codes "id") kind.Int ∷ []) kind.Int
    (Let (codes "p") (number 0)
    ∷ call_of (codes "p") (codes "price") (codes "get") (Variable (codes "id") ∷ []) (on_any (Assign (codes "p") (number 5) ∷ []))
    ∷ Return (Variable (codes "p")) ∷ []))

-- let r = 0; call r = price.get(2); assert r == 20;
abbrev pub price_test : TestTree
price_test = test_of (Let (codes "r") (number 0) ∷ call_of (codes "r") (codes "price") (codes "get") (number 2 ∷ []) NoHandlers
    ∷ Assert (equals (Variable (codes "r")) (number 20)) ∷ [])

-- let r = 0; call r = cart.total(2); assert r == 20 or injected;
abbrev pub cart_test : TestTree
cart_test = test_of (Let (codes "r") (number 0) ∷ call_of (codes "r") (codes "cart") (codes "total") (number 2 ∷ []) NoHandlers
    ∷ Assert (either (equals (Variable (codes "r")) (number 20)) Injected) ∷ [])

abbrev pub cart_services : ServicesTree
cart_services = services_of (price ∷ cart ∷ [])

-- ---- parts of runs

abbrev int : ℕ → Value
int n = value.Int (pos n)

abbrev pub entry : ℕ → ℕ → Occurrence
entry site count = record { site = site; count = count }

abbrev asked : ℕ → ℕ → ℕ → List Value → Reply → Asked
asked site count callee args got = record { entry = entry site count; callee = record { 0 = callee }; args = args; reply = got }

abbrev invocation : ℕ → List Value → CallList → Reply → ℕ → Tree
invocation method args calls got steps = Invocation (record { 0 = method }) args calls got steps

abbrev run : CallList → Outcome → ℕ → TestRun
run calls how steps = record { calls = calls; outcome = how; steps = steps }

abbrev pub timeout_at : List Occurrence → Fault
timeout_at index = record { index = index; reply = reply.Err (codes "timeout") }

-- the price is asked for, and is 20
abbrev pub price_run : TestRun
price_run = run (AndCall NoCalls (asked 1 1 0 (int 2 ∷ []) (reply.Ok (int 20)))
    (Ran (invocation 0 (int 2 ∷ []) NoCalls (reply.Ok (int 20)) 1))) outcome.Passed 3

-- the same by way of the cart
abbrev pub cart_run : TestRun
cart_run = run (AndCall NoCalls (asked 1 1 1 (int 2 ∷ []) (reply.Ok (int 20)))
    (Ran (invocation 1 (int 2 ∷ [])
    (AndCall NoCalls (asked 1 1 0 (int 2 ∷ []) (reply.Ok (int 20))) (Ran (invocation 0 (int 2 ∷ []) NoCalls (reply.Ok (int 20)) 1)))
    (reply.Ok (int 20)) 3))) outcome.Passed 3

-- the price can't be had in time, and the cart's handler takes 5
abbrev pub cart_run_without_price : TestRun
cart_run_without_price = run (AndCall NoCalls (asked 1 1 1 (int 2 ∷ []) (reply.Ok (int 5)))
    (Ran (invocation 1 (int 2 ∷ [])
    (AndCall NoCalls (asked 1 1 0 (int 2 ∷ []) (reply.Err (codes "timeout"))) Faulted)
    (reply.Ok (int 5)) 4))) outcome.Passed 3

-- let r = 0; call r = cart.total(2); call r = price.get(2); assert injected;
abbrev pub cart_then_price_test : TestTree
cart_then_price_test = test_of (Let (codes "r") (number 0) ∷ call_of (codes "r") (codes "cart") (codes "total") (number 2 ∷ []) NoHandlers
    ∷ call_of (codes "r") (codes "price") (codes "get") (number 2 ∷ []) NoHandlers ∷ Assert Injected ∷ [])

-- an earlier call was injected, and the last one not
abbrev pub cart_then_price_run : TestRun
cart_then_price_run = run (AndCall cart_run_without_price.calls (asked 2 1 0 (int 2 ∷ []) (reply.Ok (int 20)))
    (Ran (invocation 0 (int 2 ∷ []) NoCalls (reply.Ok (int 20)) 1))) outcome.Passed 4

-- ---- a shop that asks twice

-- method buy(id: int) -> int { let p = 0; repeat 2 { let ok = true; call p = price.get(id) on unavailable { ok = false; }
--   if ok { return p; } } fail unavailable; }
abbrev pub shop : ServiceTree
shop = service_of (codes "shop") (method_of (codes "buy") (parameter (codes "id") kind.Int ∷ []) kind.Int
    (Let (codes "p") (number 0)
    ∷ Repeat 2 (statements_of (Let (codes "ok") (BoolLiteral true)
    ∷ call_of (codes "p") (codes "price") (codes "get") (Variable (codes "id") ∷ []) (on_code (codes "unavailable") (Assign (codes "ok") (BoolLiteral false) ∷ []))
    ∷ If (Variable (codes "ok")) (statements_of (Return (Variable (codes "p")) ∷ [])) ∷ []))
    ∷ Fail (codes "unavailable") ∷ []))

abbrev pub shop_services : ServicesTree
shop_services = services_of (price ∷ shop ∷ [])

-- let r = 0; call r = shop.buy(2); assert r == 20;
abbrev pub shop_test : TestTree
shop_test = test_of (Let (codes "r") (number 0) ∷ call_of (codes "r") (codes "shop") (codes "buy") (number 2 ∷ []) NoHandlers
    ∷ Assert (equals (Variable (codes "r")) (number 20)) ∷ [])

abbrev pub unavailable_at : List Occurrence → Fault
unavailable_at index = record { index = index; reply = reply.Err (codes "unavailable") }

abbrev pub first_price : Fault
first_price = unavailable_at (entry 1 1 ∷ entry 1 1 ∷ [])

abbrev pub second_price : Fault
second_price = unavailable_at (entry 1 1 ∷ entry 1 2 ∷ [])

-- the first turn has a price
abbrev pub shop_run : TestRun
shop_run = run (AndCall NoCalls (asked 1 1 1 (int 2 ∷ []) (reply.Ok (int 20)))
    (Ran (invocation 1 (int 2 ∷ [])
    (AndCall NoCalls (asked 1 1 0 (int 2 ∷ []) (reply.Ok (int 20))) (Ran (invocation 0 (int 2 ∷ []) NoCalls (reply.Ok (int 20)) 1)))
    (reply.Ok (int 20)) 7))) outcome.Passed 3

-- the first price fails, and the second turn has one
abbrev pub shop_run_after_one : TestRun
shop_run_after_one = run (AndCall NoCalls (asked 1 1 1 (int 2 ∷ []) (reply.Ok (int 20)))
    (Ran (invocation 1 (int 2 ∷ [])
    (AndCall (AndCall NoCalls (asked 1 1 0 (int 2 ∷ []) (reply.Err (codes "unavailable"))) Faulted)
    (asked 1 2 0 (int 2 ∷ []) (reply.Ok (int 20))) (Ran (invocation 0 (int 2 ∷ []) NoCalls (reply.Ok (int 20)) 1)))
    (reply.Ok (int 20)) 12))) outcome.Passed 3

-- both fail, and the test ends at its call
abbrev pub shop_run_without_prices : TestRun
shop_run_without_prices = run (AndCall NoCalls (asked 1 1 1 (int 2 ∷ []) (reply.Err (codes "unavailable")))
    (Ran (invocation 1 (int 2 ∷ [])
    (AndCall (AndCall NoCalls (asked 1 1 0 (int 2 ∷ []) (reply.Err (codes "unavailable"))) Faulted)
    (asked 1 2 0 (int 2 ∷ []) (reply.Err (codes "unavailable"))) Faulted)
    (reply.Err (codes "unavailable")) 13))) (outcome.CallFailed 1 (codes "unavailable")) 2

-- ---- a handler that breaks

-- method ask(id: int) -> int { let p = 0; repeat 3 { call p = price.get(id) on unavailable { break; }
--   on any { fail unavailable; } } return 10 - 2 - 1; }
abbrev patient : ServiceTree
patient = service_of (codes "patient") (method_of (codes "ask") (parameter (codes "id") kind.Int ∷ []) kind.Int
    (Let (codes "p") (number 0)
    ∷ Repeat 3 (statements_of (call_of (codes "p") (codes "price") (codes "get") (Variable (codes "id") ∷ [])
    (handlers_of ((Some (codes "unavailable"), statements_of (Break ∷ [])) ∷ (None, statements_of (Fail (codes "unavailable") ∷ [])) ∷ [])) ∷ []))
    ∷ Return (Chain (number 10) (links_of ((op.Sub, number 2) ∷ (op.Sub, number 1) ∷ []))) ∷ []))

abbrev pub patient_services : ServicesTree
patient_services = services_of (price ∷ patient ∷ [])

-- let r = 0; call r = patient.ask(2); assert r == 7;
abbrev pub patient_test : TestTree
patient_test = test_of (Let (codes "r") (number 0) ∷ call_of (codes "r") (codes "patient") (codes "ask") (number 2 ∷ []) NoHandlers
    ∷ Assert (equals (Variable (codes "r")) (number 7)) ∷ [])

-- the second price fails, the loop ends, and the method goes on behind it
abbrev pub patient_run : TestRun
patient_run = run (AndCall NoCalls (asked 1 1 1 (int 2 ∷ []) (reply.Ok (int 7)))
    (Ran (invocation 1 (int 2 ∷ [])
    (AndCall (AndCall NoCalls (asked 1 1 0 (int 2 ∷ []) (reply.Ok (int 20))) (Ran (invocation 0 (int 2 ∷ []) NoCalls (reply.Ok (int 20)) 1)))
    (asked 1 2 0 (int 2 ∷ []) (reply.Err (codes "unavailable"))) Faulted)
    (reply.Ok (int 7)) 8))) outcome.Passed 3

-- ---- an assert that is executed twice

-- let r = 0; repeat 2 { assert r == 0; } assert r == 1;
abbrev pub asserts_test : TestTree
asserts_test = test_of (Let (codes "r") (number 0) ∷ Repeat 2 (statements_of (Assert (equals (Variable (codes "r")) (number 0)) ∷ []))
    ∷ Assert (equals (Variable (codes "r")) (number 1)) ∷ [])

-- it ends at the second assert of the source
abbrev pub asserts_run : TestRun
asserts_run = run NoCalls (outcome.AssertFailed 2) 7

-- ---- a front with two branches

-- service NAME { method get() -> int { let v = 0; call v = SERVICE.get(); return v; } }
abbrev branch : List ℕ → List ℕ → ServiceTree
branch name service = service_of name (method_of (codes "get") [] kind.Int
    (Let (codes "v") (number 0) ∷ call_of (codes "v") service (codes "get") [] NoHandlers ∷ Return (Variable (codes "v")) ∷ []))

-- service NAME { method get() -> int { return 1; } }
abbrev leaf : List ℕ → ServiceTree
leaf name = service_of name (method_of (codes "get") [] kind.Int (Return (number 1) ∷ []))

-- method go() -> int { let x = 0; let y = 0; call x = b.get() on any { x = 0; } call y = c.get() on any { y = 0; } return x + y; }
abbrev front : ServiceTree
front = service_of (codes "front") (method_of (codes "go") [] kind.Int
    (Let (codes "x") (number 0) ∷ Let (codes "y") (number 0)
    ∷ call_of (codes "x") (codes "b") (codes "get") [] (on_any (Assign (codes "x") (number 0) ∷ []))
    ∷ call_of (codes "y") (codes "c") (codes "get") [] (on_any (Assign (codes "y") (number 0) ∷ []))
    ∷ Return (plus (Variable (codes "x")) (Variable (codes "y"))) ∷ []))

abbrev pub front_services : ServicesTree
front_services =
    services_of (front ∷ branch (codes "b") (codes "d") ∷ branch (codes "c") (codes "e") ∷ leaf (codes "d") ∷ leaf (codes "e") ∷ [])

-- let r = 0; call r = front.go(); assert r == 2 or QUESTION;
abbrev front_test_or : Expression → TestTree
front_test_or question = test_of (Let (codes "r") (number 0) ∷ call_of (codes "r") (codes "front") (codes "go") [] NoHandlers
    ∷ Assert (either (equals (Variable (codes "r")) (number 2)) question) ∷ [])

-- the question is `injected`
abbrev pub front_test : TestTree
front_test = front_test_or Injected

-- the question is `injected_on d`
abbrev pub front_test_on_leaf : TestTree
front_test_on_leaf = front_test_or (InjectedOn (codes "d") None)

abbrev pub branch_fails : Fault
branch_fails = timeout_at (entry 1 1 ∷ entry 1 1 ∷ [])

abbrev pub leaf_fails : Fault
leaf_fails = timeout_at (entry 1 1 ∷ entry 1 1 ∷ entry 1 1 ∷ [])

abbrev pub other_leaf_fails : Fault
other_leaf_fails = timeout_at (entry 1 1 ∷ entry 2 1 ∷ entry 1 1 ∷ [])

abbrev timed_out : Reply
timed_out = reply.Err (codes "timeout")

-- a branch that has its leaf's 1
abbrev branch_made : ℕ → ℕ → How
branch_made method below = Ran (invocation method []
    (AndCall NoCalls (asked 1 1 below [] (reply.Ok (int 1))) (Ran (invocation below [] NoCalls (reply.Ok (int 1)) 1)))
    (reply.Ok (int 1)) 3)

-- a branch whose leaf fails
abbrev branch_without_leaf : ℕ → ℕ → How
branch_without_leaf method below = Ran (invocation method [] (AndCall NoCalls (asked 1 1 below [] timed_out) Faulted) timed_out 2)

-- a run of the test: how the two branches answer, and what the front makes of it
abbrev front_run_of : Reply → How → Reply → How → ℕ → ℕ → Outcome → TestRun
front_run_of one first other second sum steps ends = run (AndCall NoCalls (asked 1 1 0 [] (reply.Ok (int sum)))
    (Ran (invocation 0 [] (AndCall (AndCall NoCalls (asked 1 1 1 [] one) first) (asked 2 1 2 [] other) second)
    (reply.Ok (int sum)) steps))) ends 3

abbrev pub front_run : TestRun
front_run = front_run_of (reply.Ok (int 1)) (branch_made 1 3) (reply.Ok (int 1)) (branch_made 2 4) 2 5 outcome.Passed

abbrev pub front_run_without_branch : Outcome → TestRun
front_run_without_branch = front_run_of timed_out Faulted (reply.Ok (int 1)) (branch_made 2 4) 1 6

abbrev pub front_run_without_leaf : TestRun
front_run_without_leaf =
    front_run_of timed_out (branch_without_leaf 1 3) (reply.Ok (int 1)) (branch_made 2 4) 1 6 outcome.Passed

abbrev pub front_run_without_leaves : TestRun
front_run_without_leaves =
    front_run_of timed_out (branch_without_leaf 1 3) timed_out (branch_without_leaf 2 4) 0 7 outcome.Passed

-- ---- an overflow, which a handler takes

-- method next(n: int) -> int { return n + 1; }
abbrev big : ServiceTree
big = service_of (codes "big") (method_of (codes "next") (parameter (codes "n") kind.Int ∷ []) kind.Int
    (Return (plus (Variable (codes "n")) (number 1)) ∷ []))

-- method ask(n: int) -> int { let v = 0; call v = big.next(n) on internal { v = 7; } return v; }
abbrev top : ServiceTree
top = service_of (codes "top") (method_of (codes "ask") (parameter (codes "n") kind.Int ∷ []) kind.Int
    (Let (codes "v") (number 0)
    ∷ call_of (codes "v") (codes "big") (codes "next") (Variable (codes "n") ∷ []) (on_code (codes "internal") (Assign (codes "v") (number 7) ∷ []))
    ∷ Return (Variable (codes "v")) ∷ []))

abbrev pub top_services : ServicesTree
top_services = services_of (big ∷ top ∷ [])

-- let r = 0; call r = top.ask(9223372036854775807); assert r == 7;
abbrev pub top_test : TestTree
top_test = test_of (Let (codes "r") (number 0) ∷ call_of (codes "r") (codes "top") (codes "ask") (number 9223372036854775807 ∷ []) NoHandlers
    ∷ Assert (equals (Variable (codes "r")) (number 7)) ∷ [])

abbrev pub top_run : TestRun
top_run = run (AndCall NoCalls (asked 1 1 1 (int 9223372036854775807 ∷ []) (reply.Ok (int 7)))
    (Ran (invocation 1 (int 9223372036854775807 ∷ [])
    (AndCall NoCalls (asked 1 1 0 (int 9223372036854775807 ∷ []) (reply.Err (codes "internal")))
    (Ran (invocation 0 (int 9223372036854775807 ∷ []) NoCalls (reply.Err (codes "internal")) 1)))
    (reply.Ok (int 7)) 4))) outcome.Passed 3

-- ---- a fault of the caller's own, which none of its handlers takes

-- method ask(n: int) -> int { let v = 0; call v = big.next(n + 1) on internal { v = 7; } return v; }
abbrev own : ServiceTree
own = service_of (codes "own") (method_of (codes "ask") (parameter (codes "n") kind.Int ∷ []) kind.Int
    (Let (codes "v") (number 0)
    ∷ call_of (codes "v") (codes "big") (codes "next") (plus (Variable (codes "n")) (number 1) ∷ []) (on_code (codes "internal") (Assign (codes "v") (number 7) ∷ []))
    ∷ Return (Variable (codes "v")) ∷ []))

abbrev pub own_services : ServicesTree
own_services = services_of (big ∷ own ∷ [])

-- let r = 0; call r = own.ask(9223372036854775807) on internal { r = 9; } assert r == 9;
abbrev pub own_test : TestTree
own_test = test_of (Let (codes "r") (number 0)
    ∷ call_of (codes "r") (codes "own") (codes "ask") (number 9223372036854775807 ∷ []) (on_code (codes "internal") (Assign (codes "r") (number 9) ∷ []))
    ∷ Assert (equals (Variable (codes "r")) (number 9)) ∷ [])

abbrev pub own_run : TestRun
own_run = run (AndCall NoCalls (asked 1 1 1 (int 9223372036854775807 ∷ []) (reply.Err (codes "internal")))
    (Ran (invocation 1 (int 9223372036854775807 ∷ []) NoCalls (reply.Err (codes "internal")) 2))) outcome.Passed 4

-- ---- a loop over a list

-- service sum { method all(xs: list<int>) -> int { let t = 0; for x in xs { t = t + x; } return t; } }
abbrev pub sum_services : ServicesTree
sum_services = services_of (service_of (codes "sum") (method_of (codes "all") (parameter (codes "xs") kind.Ints ∷ []) kind.Int
    (Let (codes "t") (number 0)
    ∷ For (codes "x") (Variable (codes "xs")) (statements_of (Assign (codes "t") (plus (Variable (codes "t")) (Variable (codes "x"))) ∷ []))
    ∷ Return (Variable (codes "t")) ∷ [])) ∷ [])

-- let r = 0; call r = sum.all(list<int>[1, 2, 3]); assert r == 6; assert len(list<text>[]) == 0;
abbrev pub sum_test : TestTree
sum_test = test_of (Let (codes "r") (number 0)
    ∷ call_of (codes "r") (codes "sum") (codes "all") (ListLiteral kind.Int (expressions_of (number 1 ∷ number 2 ∷ number 3 ∷ [])) ∷ []) NoHandlers
    ∷ Assert (equals (Variable (codes "r")) (number 6))
    ∷ Assert (equals (Length (ListLiteral kind.Text NoExpressions)) (number 0)) ∷ [])

abbrev one_two_three : Value
one_two_three = value.List (items.Ints (pos 1 ∷ pos 2 ∷ pos 3 ∷ []))

abbrev pub sum_run : TestRun
sum_run = run (AndCall NoCalls (asked 1 1 0 (one_two_three ∷ []) (reply.Ok (int 6)))
    (Ran (invocation 0 (one_two_three ∷ []) NoCalls (reply.Ok (int 6)) 9))) outcome.Passed 4

-- ---- a loop that changes what it goes over

-- service drain { method all(xs: list<int>) -> int { let t = 0; for x in xs { t = t + x; xs = list<int>[]; } return t; } }
abbrev pub drain_services : ServicesTree
drain_services = services_of (service_of (codes "drain") (method_of (codes "all") (parameter (codes "xs") kind.Ints ∷ []) kind.Int
    (Let (codes "t") (number 0)
    ∷ For (codes "x") (Variable (codes "xs")) (statements_of (Assign (codes "t") (plus (Variable (codes "t")) (Variable (codes "x")))
    ∷ Assign (codes "xs") (ListLiteral kind.Int NoExpressions) ∷ []))
    ∷ Return (Variable (codes "t")) ∷ [])) ∷ [])

-- let r = 0; call r = drain.all(list<int>[1, 2, 3]); assert r == 6;
abbrev pub drain_test : TestTree
drain_test = test_of (Let (codes "r") (number 0)
    ∷ call_of (codes "r") (codes "drain") (codes "all") (ListLiteral kind.Int (expressions_of (number 1 ∷ number 2 ∷ number 3 ∷ [])) ∷ []) NoHandlers
    ∷ Assert (equals (Variable (codes "r")) (number 6)) ∷ [])

-- all three items have their turns
abbrev pub drain_run : TestRun
drain_run = run (AndCall NoCalls (asked 1 1 0 (one_two_three ∷ []) (reply.Ok (int 6)))
    (Ran (invocation 0 (one_two_three ∷ []) NoCalls (reply.Ok (int 6)) 12))) outcome.Passed 3
