-- The examples' runs, computed.
use Rattle.std.specs.Prelude.{◌≡◌, [], ◌∷◌}
use Rattle.std.proofs.Common.{refl}
use Rattle.fb_base.specs.Operators.{value_of_binary, value_of_unary, value_of_list}
use Rattle.fb_tree.specs.declared.outcome.Outcome.TheVariants as outcome
use Rattle.fb_tree.specs.Calls.{injected_in, injected_by, injected_of}
use Rattle.fb_meaning.specs.Evaluations.{Done, Spent}
use Rattle.fb_meaning.specs.Runs.{run_of}
use Rattle.fb_meaning.specs.Expressions.{value_of, values_of, value_of_links, value_of_operands}
use Rattle.fb_meaning.specs.Positions.{statement_counts, block_counts}
use Rattle.fb_meaning.specs.Bodies.{act}
use Rattle.fb_meaning.specs.Meaning.{within, meaning, test_meaning}
use Rattle.fb_meaning.specs.Examples.{services_of, entry, timeout_at, price, price_test, price_run, cart_services, cart_test, cart_run, cart_run_without_price, cart_then_price_test, cart_then_price_run, shop_services, shop_test, first_price, second_price, shop_run, shop_run_after_one, shop_run_without_prices, front_services, front_test, front_test_on_leaf, branch_fails, leaf_fails, other_leaf_fails, front_run, front_run_without_branch, front_run_without_leaf, front_run_without_leaves, top_services, top_test, top_run, sum_services, sum_test, sum_run, patient_services, patient_test, patient_run, asserts_test, asserts_run, own_services, own_test, own_run, drain_services, drain_test, drain_run}

pub price_runs : run_of (services_of (price ∷ [])) price_test 4 [] ≡ Done price_run 0
unfolding act within meaning test_meaning value_of values_of value_of_links value_of_operands statement_counts block_counts value_of_binary value_of_unary value_of_list injected_in injected_by injected_of
price_runs = refl

pub price_needs_four : run_of (services_of (price ∷ [])) price_test 3 [] ≡ Spent
unfolding act within meaning test_meaning value_of values_of value_of_links value_of_operands statement_counts block_counts value_of_binary value_of_unary value_of_list injected_in injected_by injected_of
price_needs_four = refl

pub cart_runs : run_of cart_services cart_test 7 [] ≡ Done cart_run 0
unfolding act within meaning test_meaning value_of values_of value_of_links value_of_operands statement_counts block_counts value_of_binary value_of_unary value_of_list injected_in injected_by injected_of
cart_runs = refl

pub cart_needs_seven : run_of cart_services cart_test 6 [] ≡ Spent
unfolding act within meaning test_meaning value_of values_of value_of_links value_of_operands statement_counts block_counts value_of_binary value_of_unary value_of_list injected_in injected_by injected_of
cart_needs_seven = refl

pub cart_runs_without_price : run_of cart_services cart_test 7 (timeout_at (entry 1 1 ∷ entry 1 1 ∷ []) ∷ []) ≡ Done cart_run_without_price 0
unfolding act within meaning test_meaning value_of values_of value_of_links value_of_operands statement_counts block_counts value_of_binary value_of_unary value_of_list injected_in injected_by injected_of
cart_runs_without_price = refl

pub cart_needs_seven_without_price : run_of cart_services cart_test 6 (timeout_at (entry 1 1 ∷ entry 1 1 ∷ []) ∷ []) ≡ Spent
unfolding act within meaning test_meaning value_of values_of value_of_links value_of_operands statement_counts block_counts value_of_binary value_of_unary value_of_list injected_in injected_by injected_of
cart_needs_seven_without_price = refl

pub shop_runs : run_of shop_services shop_test 11 [] ≡ Done shop_run 0
unfolding act within meaning test_meaning value_of values_of value_of_links value_of_operands statement_counts block_counts value_of_binary value_of_unary value_of_list injected_in injected_by injected_of
shop_runs = refl

pub shop_needs_eleven : run_of shop_services shop_test 10 [] ≡ Spent
unfolding act within meaning test_meaning value_of values_of value_of_links value_of_operands statement_counts block_counts value_of_binary value_of_unary value_of_list injected_in injected_by injected_of
shop_needs_eleven = refl

pub shop_runs_after_one : run_of shop_services shop_test 16 (first_price ∷ []) ≡ Done shop_run_after_one 0
unfolding act within meaning test_meaning value_of values_of value_of_links value_of_operands statement_counts block_counts value_of_binary value_of_unary value_of_list injected_in injected_by injected_of
shop_runs_after_one = refl

pub shop_needs_sixteen_after_one : run_of shop_services shop_test 15 (first_price ∷ []) ≡ Spent
unfolding act within meaning test_meaning value_of values_of value_of_links value_of_operands statement_counts block_counts value_of_binary value_of_unary value_of_list injected_in injected_by injected_of
shop_needs_sixteen_after_one = refl

pub shop_runs_without_prices : run_of shop_services shop_test 15 (first_price ∷ second_price ∷ []) ≡ Done shop_run_without_prices 0
unfolding act within meaning test_meaning value_of values_of value_of_links value_of_operands statement_counts block_counts value_of_binary value_of_unary value_of_list injected_in injected_by injected_of
shop_runs_without_prices = refl

pub shop_needs_fifteen_without_prices : run_of shop_services shop_test 14 (first_price ∷ second_price ∷ []) ≡ Spent
unfolding act within meaning test_meaning value_of values_of value_of_links value_of_operands statement_counts block_counts value_of_binary value_of_unary value_of_list injected_in injected_by injected_of
shop_needs_fifteen_without_prices = refl

pub front_runs : run_of front_services front_test 16 [] ≡ Done front_run 0
unfolding act within meaning test_meaning value_of values_of value_of_links value_of_operands statement_counts block_counts value_of_binary value_of_unary value_of_list injected_in injected_by injected_of
front_runs = refl

pub front_needs_sixteen : run_of front_services front_test 15 [] ≡ Spent
unfolding act within meaning test_meaning value_of values_of value_of_links value_of_operands statement_counts block_counts value_of_binary value_of_unary value_of_list injected_in injected_by injected_of
front_needs_sixteen = refl

pub front_runs_without_branch : run_of front_services front_test 13 (branch_fails ∷ []) ≡ Done (front_run_without_branch outcome.Passed) 0
unfolding act within meaning test_meaning value_of values_of value_of_links value_of_operands statement_counts block_counts value_of_binary value_of_unary value_of_list injected_in injected_by injected_of
front_runs_without_branch = refl

pub front_needs_thirteen_without_branch : run_of front_services front_test 12 (branch_fails ∷ []) ≡ Spent
unfolding act within meaning test_meaning value_of values_of value_of_links value_of_operands statement_counts block_counts value_of_binary value_of_unary value_of_list injected_in injected_by injected_of
front_needs_thirteen_without_branch = refl

pub front_runs_without_leaf : run_of front_services front_test 15 (leaf_fails ∷ []) ≡ Done front_run_without_leaf 0
unfolding act within meaning test_meaning value_of values_of value_of_links value_of_operands statement_counts block_counts value_of_binary value_of_unary value_of_list injected_in injected_by injected_of
front_runs_without_leaf = refl

pub front_needs_fifteen_without_leaf : run_of front_services front_test 14 (leaf_fails ∷ []) ≡ Spent
unfolding act within meaning test_meaning value_of values_of value_of_links value_of_operands statement_counts block_counts value_of_binary value_of_unary value_of_list injected_in injected_by injected_of
front_needs_fifteen_without_leaf = refl

pub front_runs_without_leaves : run_of front_services front_test 14 (leaf_fails ∷ other_leaf_fails ∷ []) ≡ Done front_run_without_leaves 0
unfolding act within meaning test_meaning value_of values_of value_of_links value_of_operands statement_counts block_counts value_of_binary value_of_unary value_of_list injected_in injected_by injected_of
front_runs_without_leaves = refl

pub front_needs_fourteen_without_leaves : run_of front_services front_test 13 (leaf_fails ∷ other_leaf_fails ∷ []) ≡ Spent
unfolding act within meaning test_meaning value_of values_of value_of_links value_of_operands statement_counts block_counts value_of_binary value_of_unary value_of_list injected_in injected_by injected_of
front_needs_fourteen_without_leaves = refl

-- the front gets the same replies in both; only where the leaf was injected is it asked for
pub no_leaf_is_injected : run_of front_services front_test_on_leaf 13 (branch_fails ∷ []) ≡ Done (front_run_without_branch (outcome.AssertFailed 1)) 0
unfolding act within meaning test_meaning value_of values_of value_of_links value_of_operands statement_counts block_counts value_of_binary value_of_unary value_of_list injected_in injected_by injected_of
no_leaf_is_injected = refl

pub a_leaf_is_injected : run_of front_services front_test_on_leaf 15 (leaf_fails ∷ []) ≡ Done front_run_without_leaf 0
unfolding act within meaning test_meaning value_of values_of value_of_links value_of_operands statement_counts block_counts value_of_binary value_of_unary value_of_list injected_in injected_by injected_of
a_leaf_is_injected = refl

pub top_runs : run_of top_services top_test 8 [] ≡ Done top_run 0
unfolding act within meaning test_meaning value_of values_of value_of_links value_of_operands statement_counts block_counts value_of_binary value_of_unary value_of_list injected_in injected_by injected_of
top_runs = refl

pub top_needs_eight : run_of top_services top_test 7 [] ≡ Spent
unfolding act within meaning test_meaning value_of values_of value_of_links value_of_operands statement_counts block_counts value_of_binary value_of_unary value_of_list injected_in injected_by injected_of
top_needs_eight = refl

pub sum_runs : run_of sum_services sum_test 13 [] ≡ Done sum_run 0
unfolding act within meaning test_meaning value_of values_of value_of_links value_of_operands statement_counts block_counts value_of_binary value_of_unary value_of_list injected_in injected_by injected_of
sum_runs = refl

pub sum_needs_thirteen : run_of sum_services sum_test 12 [] ≡ Spent
unfolding act within meaning test_meaning value_of values_of value_of_links value_of_operands statement_counts block_counts value_of_binary value_of_unary value_of_list injected_in injected_by injected_of
sum_needs_thirteen = refl

pub cart_then_price_runs : run_of cart_services cart_then_price_test 9 (timeout_at (entry 1 1 ∷ entry 1 1 ∷ []) ∷ []) ≡ Done cart_then_price_run 0
unfolding act within meaning test_meaning value_of values_of value_of_links value_of_operands statement_counts block_counts value_of_binary value_of_unary value_of_list injected_in injected_by injected_of
cart_then_price_runs = refl

pub cart_then_price_needs_nine : run_of cart_services cart_then_price_test 8 (timeout_at (entry 1 1 ∷ entry 1 1 ∷ []) ∷ []) ≡ Spent
unfolding act within meaning test_meaning value_of values_of value_of_links value_of_operands statement_counts block_counts value_of_binary value_of_unary value_of_list injected_in injected_by injected_of
cart_then_price_needs_nine = refl

pub patient_runs : run_of patient_services patient_test 12 (second_price ∷ []) ≡ Done patient_run 0
unfolding act within meaning test_meaning value_of values_of value_of_links value_of_operands statement_counts block_counts value_of_binary value_of_unary value_of_list injected_in injected_by injected_of
patient_runs = refl

pub patient_needs_twelve : run_of patient_services patient_test 11 (second_price ∷ []) ≡ Spent
unfolding act within meaning test_meaning value_of values_of value_of_links value_of_operands statement_counts block_counts value_of_binary value_of_unary value_of_list injected_in injected_by injected_of
patient_needs_twelve = refl

pub asserts_runs : run_of (services_of (price ∷ [])) asserts_test 7 [] ≡ Done asserts_run 0
unfolding act within meaning test_meaning value_of values_of value_of_links value_of_operands statement_counts block_counts value_of_binary value_of_unary value_of_list injected_in injected_by injected_of
asserts_runs = refl

pub asserts_needs_seven : run_of (services_of (price ∷ [])) asserts_test 6 [] ≡ Spent
unfolding act within meaning test_meaning value_of values_of value_of_links value_of_operands statement_counts block_counts value_of_binary value_of_unary value_of_list injected_in injected_by injected_of
asserts_needs_seven = refl

pub own_runs : run_of own_services own_test 6 [] ≡ Done own_run 0
unfolding act within meaning test_meaning value_of values_of value_of_links value_of_operands statement_counts block_counts value_of_binary value_of_unary value_of_list injected_in injected_by injected_of
own_runs = refl

pub own_needs_six : run_of own_services own_test 5 [] ≡ Spent
unfolding act within meaning test_meaning value_of values_of value_of_links value_of_operands statement_counts block_counts value_of_binary value_of_unary value_of_list injected_in injected_by injected_of
own_needs_six = refl

pub drain_runs : run_of drain_services drain_test 15 [] ≡ Done drain_run 0
unfolding act within meaning test_meaning value_of values_of value_of_links value_of_operands statement_counts block_counts value_of_binary value_of_unary value_of_list injected_in injected_by injected_of
drain_runs = refl

pub drain_needs_fifteen : run_of drain_services drain_test 14 [] ≡ Spent
unfolding act within meaning test_meaning value_of values_of value_of_links value_of_operands statement_counts block_counts value_of_binary value_of_unary value_of_list injected_in injected_by injected_of
drain_needs_fifteen = refl
