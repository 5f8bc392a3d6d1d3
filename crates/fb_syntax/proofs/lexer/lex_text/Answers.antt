use Rattle.std.proofs.Common.{arith, length-drop}
use Rattle.std.proofs.lemmas.List.{take_rest}
use Rattle.std.proofs.lemmas.Bool.Decides.{nat_tests}
use Rattle.std.proofs.lemmas.Result.{err_from_is_err_and}
use Rattle.fb_syntax.specs.Lexing.{lexed_from}
use Rattle.fb_syntax.proofs.Lexed.{goes_on, refuses, ends}
use Rattle.fb_syntax.proofs.lexer.lex_text.Goals as goal

pub returns-in_err-found : goal.returns-in_err-found
returns-in_err-found c =
    let out = err_from_is_err_and c.from_residual.result c.from_residual.ensures.1 in
    rw (out.1, out.2)
    (refuses c.in_err-found.field-0.0 c.loop-left.tokens c.loop-left.at c.loop-left.left.now (lexed_from 0 0 c.args.bytes.now) (grind (arith, nat_tests))
    c.in_err-found.ensures.found c.loop-left.invariant.same)

pub loop-left-preserved : goal.loop-left-preserved
loop-left-preserved c =
    let rest = take_rest c.loop-left.left.now c.in_ok-found.found.len in
    record {
      same = rw (c.in_ok-push.ensures, rest)
          (goes_on c.loop-left.tokens c.loop-left.at c.loop-left.left.now c.in_ok-found.found (lexed_from 0 0 c.args.bytes.now)
          c.in_ok-found.ensures.found c.loop-left.invariant.same);
      counted = rw rest (omega (arith, length-drop c.in_ok-found.found.len c.loop-left.left.now, c.in_ok-found.ensures.advances.within));
    }

pub returns : goal.returns
returns c = ends c.loop-left.tokens c.loop-left.at c.loop-left.left.now (lexed_from 0 0 c.args.bytes.now) (grind (arith, nat_tests)) c.loop-left.invariant.same
