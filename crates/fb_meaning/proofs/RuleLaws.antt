-- Each statement follows its rule.
use Rattle.fb_syntax.specs.Trees.{Let, Assign, If, IfElse, Repeat, For, Break, Return, Fail, Call, Assert, ServicesTree}
use Rattle.fb_transport.specs.Sources.{Source}
use Rattle.fb_meaning.specs.Positions.{Position}
use Rattle.fb_meaning.specs.Bodies.{Frame, act}
use Rattle.fb_meaning.specs.Rules.{FollowsRules}
use Rattle.fb_meaning.proofs.Bounds.{meaning_rule}

pub follows_rules : (services : ServicesTree) (source : Source) (frame : Frame) (at : Position) → FollowsRules services source frame at
unfolding act
follows_rules services source frame at = record {
  let_rule = λ name value. meaning_rule services source frame at (Let name value);
  assign_rule = λ name value. meaning_rule services source frame at (Assign name value);
  if_rule = λ cond body. meaning_rule services source frame at (If cond body);
  if_else_rule = λ cond body other. meaning_rule services source frame at (IfElse cond body other);
  repeat_rule = λ times body. meaning_rule services source frame at (Repeat times body);
  for_rule = λ name over body. meaning_rule services source frame at (For name over body);
  break_rule = meaning_rule services source frame at Break;
  return_rule = λ value. meaning_rule services source frame at (Return value);
  fail_rule = λ code. meaning_rule services source frame at (Fail code);
  call_rule = λ target service method args handlers. meaning_rule services source frame at (Call target service method args handlers);
  assert_rule = λ cond. meaning_rule services source frame at (Assert cond);
}
