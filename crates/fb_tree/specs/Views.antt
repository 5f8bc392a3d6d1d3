-- The plain data of the code's trees, which forgets where their parts lie in memory.
use Rattle.std.specs.Prelude.{List, [], ◌∷◌}
use Rattle.fb_tree.specs.declared.asked.Asked.{Asked}
use Rattle.fb_tree.specs.declared.node.Node as node
use Rattle.fb_tree.specs.declared.node.Node.{Node, Row_of-Made, end_of-Made, more_of-Made}
use Rattle.fb_tree.specs.declared.node.Made.{Made}
use Rattle.fb_tree.specs.declared.node.How as how
use Rattle.fb_tree.specs.declared.node.How.{How as HowOf}
use Rattle.fb_tree.specs.declared.node.TestNode.{TestNode}
use Rattle.fb_tree.specs.Runs.{Tree, Invocation, CallList, NoCalls, AndCall, How, Faulted, Ran, Known, TestRun}

unfoldable mutual
  pub view_node : Node → Tree
  view_node (node.Node' method args shape calls reply steps) = Invocation method args (view_row NoCalls calls) reply steps

  pub view_how : HowOf → How
  view_how how.Fault = Faulted
  view_how (how.Ran' p n) = Ran (view_node n)
  view_how (how.Known steps injected) = Known steps injected

  -- those before a row of calls, and the row
  pub view_row : {n : _} → CallList → Row_of-Made n → CallList
  view_row before end_of-Made = before
  view_row before (more_of-Made entry callee args h reply rest) =
      view_row (AndCall before (record { entry = entry; callee = callee; args = args; reply = reply }) (view_how h)) rest

-- a call's request and reply
abbrev pub view_asked : Made → Asked
view_asked made = record { entry = made.entry; callee = made.callee; args = made.args; reply = made.reply }

-- those before some calls, and the calls, the first one first
unfoldable pub calls_and : CallList → List Made → CallList
calls_and before [] = before
calls_and before (made ∷ rest) = calls_and (AndCall before (view_asked made) (view_how made.how)) rest

abbrev pub view_calls : List Made → CallList
view_calls calls = calls_and NoCalls calls

abbrev pub view_run : TestNode → TestRun
view_run run = record { calls = view_calls run.calls.items; outcome = run.outcome; steps = run.steps }
