-- A statement that some tokens spell is spelled by its canonical tokens.
use Rattle.std.proofs.Common.{◌≡◌, ℕ, zero, suc, ◌+◌, ◌≤◌, pos, Option, Some, None, List, [], ◌∷◌, ◌++◌, append_assoc, append-nil, length, drop, refl, sym, ap, ◌∙◌, subst, arith, inl, inr}
use Rattle.fb_syntax.specs.declared.sign.Sign.TheVariants as sign
use Rattle.fb_syntax.specs.declared.reserved.Reserved.TheVariants as word
use Rattle.fb_syntax.specs.declared.token.What.{What}
use Rattle.fb_syntax.specs.declared.token.What.TheVariants as what
use Rattle.fb_syntax.specs.Trees.{Expression, Statement, Let, Assign, If, IfElse, Repeat, For, Break, Return, Fail, Call, Assert, Statements}
use Rattle.fb_syntax.specs.Views.{expressions_of, statements_of, handlers_of}
use Rattle.fb_syntax.specs.Keywords.{reserved_text}
use Rattle.fb_syntax.specs.Limits.{deepest_block, most_params, deepest}
use Rattle.fb_syntax.specs.Input.{Input}
use Rattle.fb_syntax.specs.TokenKinds.{name_of, is_word, is_sign, turns_of}
use Rattle.fb_syntax.specs.Spans.{Spelling, Takes, As, Is, Pair, Behind, Between, Made, Many, Listed}
use Rattle.fb_syntax.specs.ExpressionGrammar.{spelled_below}
use Rattle.fb_syntax.specs.StatementGrammar as grammar
use Rattle.fb_syntax.specs.StatementGrammar.{WholeExpr, NewValue, Turns, Arguments, Handled, spelled_inside, SpellsBody}
use Rattle.fb_syntax.specs.declared.levels.Level.TheVariants as level
use Rattle.fb_print.specs.Items.{Line, keyword, sign, comma_separated}
use Rattle.fb_print.specs.Expressions.{each_placed}
use Rattle.fb_print.specs.Statements.{whole_items, code_item, assignment, for_head, call_items, statement_items, lines, handlers_items, block_items, else_items, handler_items, after_items}
use Rattle.fb_print.specs.Spelled.{item_tokens, tokens_of}
use Rattle.fb_print.proofs.KnownTokens.{some_same, word_known, sign_known}
use Rattle.fb_print.proofs.Respelling.{CanBeSpelled, Respells, covers_both, covers_taken, split_echo, comes_again, same_input, tokens_are, respells_as, respells_is, respells_pair, respells_behind, respells_between, respells_too, respells_made, all_tokens, respells_many}
use Rattle.fb_print.proofs.Standing.{tokens_of-append, placed_here}
use Rattle.fb_print.proofs.ExpressionRespelled.{name_respelled, listed_tokens, listed_again, carried, level_again}

-- the calls counted are those of the old tokens
abbrev pub Respelled : {A : Type 0} → Spelling A → List What → A → Input → Input → Type 0
Respelled This = Respells (λ n. n) This

-- ---- parts of statements

abbrev pub whole_tokens : Expression → List What
whole_tokens e = tokens_of (whole_items e)

pub whole_again : (e : Expression) (from to : Input) → WholeExpr from to e → Respelled WholeExpr (whole_tokens e) e from to
whole_again e from to this = placed_here level.Expr e from to (level_again deepest level.Expr e from to this)

abbrev new_value_tokens : Expression → List What
new_value_tokens value = what.Sign sign.Assign ∷ whole_tokens value ++ what.Sign sign.Semicolon ∷ []

new_value_again : (e : Expression) (from to : Input) → NewValue from to e → Respelled NewValue (new_value_tokens e) e from to
new_value_again e from to (mid, assign, (late, this, end)) =
    respells_between WholeExpr (is_sign sign.Assign) (is_sign sign.Semicolon) (what.Sign sign.Assign) (what.Sign sign.Semicolon) (whole_tokens e) e from mid late to
    refl refl (sign_known sign.Assign) (sign_known sign.Semicolon) assign end (whole_again e mid late this)

number_known : (old : What) (n : ℕ) → turns_of old ≡ Some n → CanBeSpelled old → CanBeSpelled (what.Int (pos n))
number_known (what.Int (pos m)) n is known = subst (λ (k : ℕ). CanBeSpelled (what.Int (pos k))) (some_same m n is) known
number_known _ n is known = absurd (let no_way = is in cc)

turns_again : (n : ℕ) (from to : Input) → Turns from to n → Respelled Turns (what.Int (pos n) ∷ []) n from to
turns_again n from to (this, few) =
    respells_too {This = As turns_of} (what.Int (pos n) ∷ []) n n from to (λ start rest again. (again, few))
    (respells_as turns_of (what.Int (pos n)) n from to (λ before is. refl) (λ before. number_known before n) this)

abbrev arguments_tokens : List Expression → List What
arguments_tokens args = what.Sign sign.OpenParen ∷ listed_tokens args ++ what.Sign sign.CloseParen ∷ []

arguments_again : (args : List Expression) (from to : Input) → Arguments from to args → Respelled Arguments (arguments_tokens args) args from to
arguments_again args from to (mid, open_, (late, these, close)) =
    let all : deepest ≤ deepest = omega arith in
    respells_between (Listed most_params WholeExpr) (is_sign sign.OpenParen) (is_sign sign.CloseParen) (what.Sign sign.OpenParen) (what.Sign sign.CloseParen) (listed_tokens args) args from mid late to
    refl refl (sign_known sign.OpenParen) (sign_known sign.CloseParen) open_ close
    (listed_again (spelled_below deepest) (spelled_below deepest) (carried deepest deepest all) most_params args mid late these)

handled_again : (code : Option (List ℕ)) (from to : Input) → Handled from to code → Respelled Handled (item_tokens (code_item code)) code from to
handled_again code from to (inl (took, is)) =
    subst (λ (c : Option (List ℕ)). Respelled Handled (item_tokens (code_item c)) c from to) (sym is)
    (respells_too {This = Is (is_word word.Any) None} (what.Word (reserved_text word.Any) ∷ []) None None from to (λ start rest again. inl again)
    (respells_is (is_word word.Any) (what.Word (reserved_text word.Any)) None from to refl (word_known word.Any) took))
handled_again code from to (inr (x, named, is)) =
    subst (λ (c : Option (List ℕ)). Respelled Handled (item_tokens (code_item c)) c from to) (sym is)
    (respells_too {This = As name_of} (what.Word x ∷ []) x (Some x) from to (λ start rest again. inr (x, again, refl)) (name_respelled x from to named))

-- ---- statements that hold no block

abbrev pub statement_tokens : ℕ → Statement → List What
statement_tokens depth s = tokens_of (statement_items depth s)

-- a statement of this depth is spelled again
abbrev AgainAt : Spelling Statement → ℕ → Statement → Input → Input → Type 0
AgainAt This depth s from to = Respelled This (statement_tokens depth s) s from to

assignment_tokens : (x : List ℕ) (value : Expression) → tokens_of (assignment x value) ≡ what.Word x ∷ new_value_tokens value
assignment_tokens x value =
    ap (λ l. what.Word x ∷ what.Sign sign.Assign ∷ l) (tokens_of-append (whole_items value) (sign sign.Semicolon ∷ []))

-- a name and its value
named_value_again : (p : List ℕ × Expression) (from to : Input) → Pair (As name_of) NewValue from to p
    → Respelled (Pair (As name_of) NewValue) (tokens_of (assignment p.0 p.1)) p from to
named_value_again p from to (mid, named, this) =
    tokens_are (Pair (As name_of) NewValue) p from to _ (tokens_of (assignment p.0 p.1)) (sym (assignment_tokens p.0 p.1))
    (respells_pair {That = NewValue} (what.Word p.0 ∷ []) (new_value_tokens p.1) p.0 p.1 from mid to (name_respelled p.0 from mid named) (new_value_again p.1 mid to this))

assign_again : (depth : ℕ) (s : Statement) (from to : Input) → grammar.AssignSpelled from to s → AgainAt grammar.AssignSpelled depth s from to
unfolding statement_items
assign_again depth s from to (p, this, is) =
    subst (λ (x : Statement). AgainAt grammar.AssignSpelled depth x from to) (sym is)
    (respells_made {This = Pair (As name_of) NewValue} (λ p. Assign p.0 p.1) (tokens_of (assignment p.0 p.1)) p from to (named_value_again p from to this))

let_again : (depth : ℕ) (s : Statement) (from to : Input) → grammar.LetSpelled from to s → AgainAt grammar.LetSpelled depth s from to
unfolding statement_items
let_again depth s from to (p, (mid, took, this), is) =
    subst (λ (x : Statement). AgainAt grammar.LetSpelled depth x from to) (sym is)
    (respells_made {This = Behind (is_word word.Let) (Pair (As name_of) NewValue)} (λ p. Let p.0 p.1) (what.Word (reserved_text word.Let) ∷ tokens_of (assignment p.0 p.1)) p from to
    (respells_behind {This = Pair (As name_of) NewValue} (is_word word.Let) (what.Word (reserved_text word.Let)) (tokens_of (assignment p.0 p.1)) p from mid to refl (word_known word.Let) took
    (named_value_again p mid to this)))

break_again : (depth : ℕ) (s : Statement) (from to : Input) → grammar.BreakSpelled from to s → AgainAt grammar.BreakSpelled depth s from to
unfolding statement_items
break_again depth s from to (mid, took, (end, is)) =
    subst (λ (x : Statement). AgainAt grammar.BreakSpelled depth x from to) (sym is)
    (respells_behind {This = Is (is_sign sign.Semicolon) Break} (is_word word.Break) (what.Word (reserved_text word.Break)) (what.Sign sign.Semicolon ∷ []) Break from mid to refl (word_known word.Break) took
    (respells_is (is_sign sign.Semicolon) (what.Sign sign.Semicolon) Break mid to refl (sign_known sign.Semicolon) end))

return_again : (depth : ℕ) (s : Statement) (from to : Input) → grammar.ReturnSpelled from to s → AgainAt grammar.ReturnSpelled depth s from to
unfolding statement_items
return_again depth s from to (value, (mid, took, (late, this, end)), is) =
    subst (λ (x : Statement). AgainAt grammar.ReturnSpelled depth x from to) (sym is)
    (tokens_are grammar.ReturnSpelled (Return value) from to _ (statement_tokens depth (Return value))
    (sym (ap (λ l. what.Word (reserved_text word.Return) ∷ l) (tokens_of-append (whole_items value) (sign sign.Semicolon ∷ []))))
    (respells_made {This = Between (is_word word.Return) WholeExpr (is_sign sign.Semicolon)} Return _ value from to
    (respells_between WholeExpr (is_word word.Return) (is_sign sign.Semicolon) (what.Word (reserved_text word.Return)) (what.Sign sign.Semicolon) (whole_tokens value) value from mid late to
    refl refl (word_known word.Return) (sign_known sign.Semicolon) took end (whole_again value mid late this))))

fail_again : (depth : ℕ) (s : Statement) (from to : Input) → grammar.FailSpelled from to s → AgainAt grammar.FailSpelled depth s from to
unfolding statement_items
fail_again depth s from to (code, (mid, took, (late, named, end)), is) =
    subst (λ (x : Statement). AgainAt grammar.FailSpelled depth x from to) (sym is)
    (respells_made {This = Between (is_word word.Fail) (As name_of) (is_sign sign.Semicolon)} Fail _ code from to
    (respells_between (As name_of) (is_word word.Fail) (is_sign sign.Semicolon) (what.Word (reserved_text word.Fail)) (what.Sign sign.Semicolon) (what.Word code ∷ []) code from mid late to
    refl refl (word_known word.Fail) (sign_known sign.Semicolon) took end (name_respelled code mid late named)))

assert_again : (depth : ℕ) (s : Statement) (from to : Input) → grammar.AssertSpelled from to s → AgainAt grammar.AssertSpelled depth s from to
unfolding statement_items
assert_again depth s from to (cond, (mid, took, (late, this, end)), is) =
    subst (λ (x : Statement). AgainAt grammar.AssertSpelled depth x from to) (sym is)
    (tokens_are grammar.AssertSpelled (Assert cond) from to _ (statement_tokens depth (Assert cond))
    (sym (ap (λ l. what.Word (reserved_text word.Assert) ∷ l) (tokens_of-append (whole_items cond) (sign sign.Semicolon ∷ []))))
    (respells_made {This = Between (is_word word.Assert) WholeExpr (is_sign sign.Semicolon)} Assert _ cond from to
    (respells_between WholeExpr (is_word word.Assert) (is_sign sign.Semicolon) (what.Word (reserved_text word.Assert)) (what.Sign sign.Semicolon) (whole_tokens cond) cond from mid late to
    refl refl (word_known word.Assert) (sign_known sign.Semicolon) took end (whole_again cond mid late this))))

-- ---- blocks

-- the tokens of statements, each on a line of this depth
abbrev inside_tokens : ℕ → List Statement → List What
inside_tokens depth = all_tokens (statement_tokens depth)

lines_tokens : (depth : ℕ) (ss : List Statement) → tokens_of (lines depth (statements_of ss)) ≡ inside_tokens depth ss
unfolding statement_items lines
lines_tokens depth [] = refl
lines_tokens depth (s ∷ ss) =
    tokens_of-append (statement_items depth s) (lines depth (statements_of ss)) ∙ ap (λ l. statement_tokens depth s ++ l) (lines_tokens depth ss)

abbrev pub block_tokens : ℕ → Statements → List What
block_tokens depth body = tokens_of (block_items depth body)

block_is : (depth : ℕ) (ss : List Statement)
    → block_tokens depth (statements_of ss) ≡ what.Sign sign.OpenBrace ∷ inside_tokens (suc depth) ss ++ what.Sign sign.CloseBrace ∷ []
block_is depth ss =
    ap (λ l. what.Sign sign.OpenBrace ∷ l)
    (tokens_of-append (lines (suc depth) (statements_of ss)) (Line depth ∷ sign sign.CloseBrace ∷ []) ∙ ap (λ l. l ++ what.Sign sign.CloseBrace ∷ []) (lines_tokens (suc depth) ss))

-- over what is spelled between the braces of a block, which is spelled again at each depth
module _ (Inside : Spelling (List Statement))
    (again : (depth : ℕ) (ss : List Statement) (from to : Input) → Inside from to ss → Respelled Inside (inside_tokens depth ss) ss from to) where
  block_again : (depth : ℕ) (body : Statements) (from to : Input) → grammar.Block Inside from to body → Respelled (grammar.Block Inside) (block_tokens depth body) body from to
  block_again depth body from to (ss, (mid, open_, (late, these, close)), is) =
      subst (λ (b : Statements). Respelled (grammar.Block Inside) (block_tokens depth b) b from to) (sym is)
      (tokens_are (grammar.Block Inside) (statements_of ss) from to _ (block_tokens depth (statements_of ss)) (sym (block_is depth ss))
      (respells_made {This = Between (is_sign sign.OpenBrace) Inside (is_sign sign.CloseBrace)} statements_of _ ss from to
      (respells_between Inside (is_sign sign.OpenBrace) (is_sign sign.CloseBrace) (what.Sign sign.OpenBrace) (what.Sign sign.CloseBrace) (inside_tokens (suc depth) ss) ss from mid late to
      refl refl (sign_known sign.OpenBrace) (sign_known sign.CloseBrace) open_ close (again (suc depth) ss mid late these))))

  if_again : (depth : ℕ) (s : Statement) (from to : Input) → grammar.IfSpelled Inside from to s → AgainAt (grammar.IfSpelled Inside) depth s from to
  unfolding statement_items
  if_again depth s from to (p, (mid, took, (late, cond, body)), is) =
      let head = keyword word.If ∷ whole_items p.0 in
      subst (λ (x : Statement). AgainAt (grammar.IfSpelled Inside) depth x from to) (sym is)
      (tokens_are (grammar.IfSpelled Inside) (If p.0 p.1) from to _ (statement_tokens depth (If p.0 p.1)) (sym (tokens_of-append head (block_items depth p.1)))
      (respells_made {This = Behind (is_word word.If) (Pair WholeExpr (grammar.Block Inside))} (λ p. If p.0 p.1) _ p from to
      (respells_behind {This = Pair WholeExpr (grammar.Block Inside)} (is_word word.If) (what.Word (reserved_text word.If)) _ p from mid to refl (word_known word.If) took
      (respells_pair {That = grammar.Block Inside} (whole_tokens p.0) (block_tokens depth p.1) p.0 p.1 mid late to (whole_again p.0 mid late cond) (block_again depth p.1 late to body)))))

  if_else_again : (depth : ℕ) (s : Statement) (from to : Input) → grammar.IfElseSpelled Inside from to s → AgainAt (grammar.IfElseSpelled Inside) depth s from to
  unfolding statement_items
  if_else_again depth s from to ((cond, (body, other)), (mid, took, (late, this, (next, block, (last, else_took, other_block)))), is) =
      let head = keyword word.If ∷ whole_items cond in
      let else_part = what.Word (reserved_text word.Else) ∷ block_tokens depth other in
      let whole = IfElse cond body other in
      subst (λ (x : Statement). AgainAt (grammar.IfElseSpelled Inside) depth x from to) (sym is)
      (tokens_are (grammar.IfElseSpelled Inside) whole from to _ (statement_tokens depth whole)
      (sym (tokens_of-append (head ++ block_items depth body) (else_items depth (Some other)) ∙ ap (λ l. l ++ else_part) (tokens_of-append head (block_items depth body))
      ∙ append_assoc (tokens_of head) (block_tokens depth body) else_part))
      (respells_made {This = Behind (is_word word.If) (Pair WholeExpr (Pair (grammar.Block Inside) (Behind (is_word word.Else) (grammar.Block Inside))))} (λ p. IfElse p.0 p.1.0 p.1.1) _ (cond, (body, other)) from to
      (respells_behind {This = Pair WholeExpr (Pair (grammar.Block Inside) (Behind (is_word word.Else) (grammar.Block Inside)))} (is_word word.If) (what.Word (reserved_text word.If)) _ (cond, (body, other)) from mid to
      refl (word_known word.If) took
      (respells_pair {That = Pair (grammar.Block Inside) (Behind (is_word word.Else) (grammar.Block Inside))} (whole_tokens cond) (block_tokens depth body ++ else_part) cond (body, other) mid late to (whole_again cond mid late this)
      (respells_pair {That = Behind (is_word word.Else) (grammar.Block Inside)} (block_tokens depth body) else_part body other late next to (block_again depth body late next block)
      (respells_behind {This = grammar.Block Inside} (is_word word.Else) (what.Word (reserved_text word.Else)) (block_tokens depth other) other next last to refl (word_known word.Else) else_took
      (block_again depth other last to other_block)))))))

  repeat_again : (depth : ℕ) (s : Statement) (from to : Input) → grammar.RepeatSpelled Inside from to s → AgainAt (grammar.RepeatSpelled Inside) depth s from to
  unfolding statement_items
  repeat_again depth s from to (p, (mid, took, (late, turns, body)), is) =
      subst (λ (x : Statement). AgainAt (grammar.RepeatSpelled Inside) depth x from to) (sym is)
      (respells_made {This = Behind (is_word word.Repeat) (Pair Turns (grammar.Block Inside))} (λ p. Repeat p.0 p.1) _ p from to
      (respells_behind {This = Pair Turns (grammar.Block Inside)} (is_word word.Repeat) (what.Word (reserved_text word.Repeat)) _ p from mid to refl (word_known word.Repeat) took
      (respells_pair {That = grammar.Block Inside} (what.Int (pos p.0) ∷ []) (block_tokens depth p.1) p.0 p.1 mid late to (turns_again p.0 mid late turns) (block_again depth p.1 late to body))))

  for_again : (depth : ℕ) (s : Statement) (from to : Input) → grammar.ForSpelled Inside from to s → AgainAt (grammar.ForSpelled Inside) depth s from to
  unfolding statement_items
  for_again depth s from to ((x, (over, body)), (mid, took, (late, named, (next, in_took, (last, this, block)))), is) =
      let whole = For x over body in
      let over_part = whole_tokens over ++ block_tokens depth body in
      subst (λ (x : Statement). AgainAt (grammar.ForSpelled Inside) depth x from to) (sym is)
      (tokens_are (grammar.ForSpelled Inside) whole from to _ (statement_tokens depth whole) (sym (tokens_of-append (for_head x over) (block_items depth body)))
      (respells_made {This = Behind (is_word word.For) (Pair (As name_of) (Behind (is_word word.In) (Pair WholeExpr (grammar.Block Inside))))} (λ p. For p.0 p.1.0 p.1.1) _ (x, (over, body)) from to
      (respells_behind {This = Pair (As name_of) (Behind (is_word word.In) (Pair WholeExpr (grammar.Block Inside)))} (is_word word.For) (what.Word (reserved_text word.For)) _ (x, (over, body)) from mid to
      refl (word_known word.For) took
      (respells_pair {That = Behind (is_word word.In) (Pair WholeExpr (grammar.Block Inside))} (what.Word x ∷ []) (what.Word (reserved_text word.In) ∷ over_part) x (over, body) mid late to (name_respelled x mid late named)
      (respells_behind {This = Pair WholeExpr (grammar.Block Inside)} (is_word word.In) (what.Word (reserved_text word.In)) over_part (over, body) late next to refl (word_known word.In) in_took
      (respells_pair {That = grammar.Block Inside} (whole_tokens over) (block_tokens depth body) over body next last to (whole_again over next last this) (block_again depth body last to block)))))))

  -- ---- calls

  abbrev handler_tokens : ℕ → Option (List ℕ) × Statements → List What
  handler_tokens depth handler = tokens_of (handler_items depth handler)

  handler_again : (depth : ℕ) (handler : Option (List ℕ) × Statements) (from to : Input) → grammar.HandlerSpelled Inside from to handler
      → Respelled (grammar.HandlerSpelled Inside) (handler_tokens depth handler) handler from to
  handler_again depth handler from to (mid, took, (late, code, body)) =
      respells_behind {This = Pair Handled (grammar.Block Inside)} (is_word word.On) (what.Word (reserved_text word.On)) _ handler from mid to refl (word_known word.On) took
      (respells_pair {That = grammar.Block Inside} (item_tokens (code_item handler.0)) (block_tokens depth handler.1) handler.0 handler.1 mid late to
      (handled_again handler.0 mid late code) (block_again depth handler.1 late to body))

  handlers_tokens : (depth : ℕ) (handlers : List (Option (List ℕ) × Statements)) → tokens_of (handlers_items depth (handlers_of handlers)) ≡ all_tokens (handler_tokens depth) handlers
  unfolding statement_items handlers_items
  handlers_tokens depth [] = refl
  handlers_tokens depth (handler ∷ handlers) =
      tokens_of-append (handler_items depth handler) (handlers_items depth (handlers_of handlers)) ∙ ap (λ l. handler_tokens depth handler ++ l) (handlers_tokens depth handlers)

  abbrev after_tokens : ℕ → List (Option (List ℕ) × Statements) → List What
  after_tokens depth handlers = tokens_of (after_items depth (handlers_of handlers))

  after_is : (depth : ℕ) (handlers : List (Option (List ℕ) × Statements)) → 1 ≤ length handlers → after_tokens depth handlers ≡ all_tokens (handler_tokens depth) handlers
  unfolding statement_items handlers_items
  after_is depth [] some = absurd (omega arith)
  after_is depth (handler ∷ handlers) some =
      tokens_of-append (handlers_items depth (handlers_of (handler ∷ handlers))) [] ∙ append-nil _ ∙ handlers_tokens depth (handler ∷ handlers)

  after_again : (depth : ℕ) (handlers : List (Option (List ℕ) × Statements)) (from to : Input) → grammar.HandlersSpelled Inside from to handlers
      → Respelled (grammar.HandlersSpelled Inside) (after_tokens depth handlers) handlers from to
  unfolding statement_items handlers_items
  after_again depth handlers from to (inl (end, is)) =
      subst (λ (hs : List (Option (List ℕ) × Statements)). Respelled (grammar.HandlersSpelled Inside) (after_tokens depth hs) hs from to) (sym is)
      (respells_too {This = Is (is_sign sign.Semicolon) []} (what.Sign sign.Semicolon ∷ []) [] [] from to (λ start rest again. inl again)
      (respells_is (is_sign sign.Semicolon) (what.Sign sign.Semicolon) [] from to refl (sign_known sign.Semicolon) end))
  after_again depth handlers from to (inr (some, (few, many))) =
      tokens_are (grammar.HandlersSpelled Inside) handlers from to _ (after_tokens depth handlers) (sym (after_is depth handlers some))
      (respells_too {This = Many (grammar.HandlerSpelled Inside)} (all_tokens (handler_tokens depth) handlers) handlers handlers from to (λ start rest again. inr (some, (few, again)))
      (respells_many (grammar.HandlerSpelled Inside) (grammar.HandlerSpelled Inside) (handler_tokens depth) (handler_again depth) handlers from to many))

  -- `m ( e, .. )` and what follows, behind the sign between service and method
  abbrev OfMethod : Spelling (List ℕ × (List Expression × List (Option (List ℕ) × Statements)))
  OfMethod = Pair (As name_of) (Pair Arguments (grammar.HandlersSpelled Inside))

  -- `s.m ( e, .. )` and what follows
  abbrev OfService : Spelling (List ℕ × (List ℕ × (List Expression × List (Option (List ℕ) × Statements))))
  OfService = Pair (As name_of) (Behind (is_sign sign.Dot) OfMethod)

  -- behind the word `call`
  abbrev Called : Spelling Statement
  Called =
      Made (λ p. Call p.0 p.1.0 p.1.1.0 (expressions_of p.1.1.1.0) (handlers_of p.1.1.1.1))
      (Pair (As name_of) (Behind (is_sign sign.Assign) OfService))

  abbrev method_tokens : ℕ → List ℕ → List Expression → List (Option (List ℕ) × Statements) → List What
  method_tokens depth method args handlers = what.Word method ∷ arguments_tokens args ++ after_tokens depth handlers

  abbrev called_tokens : ℕ → List ℕ → List ℕ → List ℕ → List Expression → List (Option (List ℕ) × Statements) → List What
  called_tokens depth x service method args handlers =
      what.Word x ∷ what.Sign sign.Assign ∷ what.Word service ∷ what.Sign sign.Dot ∷ method_tokens depth method args handlers

  called_again : (depth : ℕ) (x service method : List ℕ) (args : List Expression) (handlers : List (Option (List ℕ) × Statements)) (from mid late next far last end to : Input)
      → As name_of from mid x → Takes (is_sign sign.Assign) mid late → As name_of late next service → Takes (is_sign sign.Dot) next far → As name_of far last method
      → Arguments last end args → grammar.HandlersSpelled Inside end to handlers
      → Respelled Called (called_tokens depth x service method args handlers) (Call x service method (expressions_of args) (handlers_of handlers)) from to
  called_again depth x service method args handlers from mid late next far last end to target assign service_named dot method_named these after =
      let rest = method_tokens depth method args handlers in
      respells_made {This = Pair (As name_of) (Behind (is_sign sign.Assign) OfService)} (λ p. Call p.0 p.1.0 p.1.1.0 (expressions_of p.1.1.1.0) (handlers_of p.1.1.1.1))
      (called_tokens depth x service method args handlers) (x, (service, (method, (args, handlers)))) from to
      (respells_pair {That = Behind (is_sign sign.Assign) OfService} (what.Word x ∷ []) (what.Sign sign.Assign ∷ what.Word service ∷ what.Sign sign.Dot ∷ rest)
      x (service, (method, (args, handlers))) from mid to (name_respelled x from mid target)
      (respells_behind {This = OfService} (is_sign sign.Assign) (what.Sign sign.Assign) (what.Word service ∷ what.Sign sign.Dot ∷ rest)
      (service, (method, (args, handlers))) mid late to refl (sign_known sign.Assign) assign
      (respells_pair {That = Behind (is_sign sign.Dot) OfMethod} (what.Word service ∷ []) (what.Sign sign.Dot ∷ rest) service (method, (args, handlers)) late next to (name_respelled service late next service_named)
      (respells_behind {This = OfMethod} (is_sign sign.Dot) (what.Sign sign.Dot) rest (method, (args, handlers)) next far to refl (sign_known sign.Dot) dot
      (respells_pair {That = Pair Arguments (grammar.HandlersSpelled Inside)} (what.Word method ∷ []) (arguments_tokens args ++ after_tokens depth handlers)
      method (args, handlers) far last to (name_respelled method far last method_named)
      (respells_pair {That = grammar.HandlersSpelled Inside} (arguments_tokens args) (after_tokens depth handlers) args handlers last end to
      (arguments_again args last end these) (after_again depth handlers end to after)))))))

  call_tokens : (depth : ℕ) (x service method : List ℕ) (args : List Expression) (handlers : List (Option (List ℕ) × Statements))
      → statement_tokens depth (Call x service method (expressions_of args) (handlers_of handlers))
      ≡ what.Word (reserved_text word.Call) ∷ called_tokens depth x service method args handlers
  unfolding statement_items
  call_tokens depth x service method args handlers =
      tokens_of-append (call_items x service method (expressions_of args)) (after_items depth (handlers_of handlers))
      ∙ ap (λ l. what.Word (reserved_text word.Call) ∷ what.Word x ∷ what.Sign sign.Assign ∷ what.Word service ∷ what.Sign sign.Dot ∷ what.Word method ∷ what.Sign sign.OpenParen ∷ l ++ after_tokens depth handlers)
      (tokens_of-append (comma_separated (each_placed level.Expr (expressions_of args))) (sign sign.CloseParen ∷ []))

  -- behind the word `call`, which is one more call of the body
  counted_again : (tokens : List What) (s : Statement) (from start to : Input) → grammar.BeginsCall from start → Respelled Called tokens s start to
      → Respelled (grammar.CallSpelled Inside) (what.Word (reserved_text word.Call) ∷ tokens) s from to
  counted_again tokens s from start to (came, few, counted) called =
      let call = what.Word (reserved_text word.Call) in
      let left = ap (λ (input : Input). input.left) counted in
      record {
        spelled = λ begin rest echo. (
            let cut = split_echo (call ∷ []) tokens from start to begin rest echo in
            let comes = comes_again (is_word word.Call) call from start begin cut.0 refl cut.1 in
            let same : begin.calls ≡ from.calls = echo.before in
            let more : (cut.0).calls ≡ begin.calls + 1 = cut.1.after ∙ ap (λ (input : Input). input.calls) counted ∙ ap (λ n. n + 1) (sym same) in
            let at = same_input cut.0 (record { left = drop 1 begin.left; end = begin.end; calls = begin.calls + 1 }) comes.1 cut.1.same_end more in
            (cut.0, (comes.0, omega (arith, same), at), called.spelled cut.0 rest cut.2));
        covers = covers_both (call ∷ []) tokens from.left start.left to.left
            (covers_taken (is_word word.Call) call from start (word_known word.Call) came left) called.covers;
      }

  call_again : (depth : ℕ) (s : Statement) (from to : Input) → grammar.CallSpelled Inside from to s → AgainAt (grammar.CallSpelled Inside) depth s from to
  call_again depth s from to (start, begins, ((x, (service, (method, (args, handlers)))), (mid, target, (late, assign, (next, named, (far, dot, (last, method_named, (end, these, after)))))), is)) =
      let whole = Call x service method (expressions_of args) (handlers_of handlers) in
      subst (λ (y : Statement). AgainAt (grammar.CallSpelled Inside) depth y from to) (sym is)
      (tokens_are (grammar.CallSpelled Inside) whole from to _ (statement_tokens depth whole) (sym (call_tokens depth x service method args handlers))
      (counted_again (called_tokens depth x service method args handlers) whole from start to begins
      (called_again depth x service method args handlers start mid late next far last end to target assign named dot method_named these after)))

  -- ---- statements

  abbrev Spelled : Spelling Statement
  Spelled = grammar.StatementSpelled Inside

  statement_again : (depth : ℕ) (s : Statement) (from to : Input) → Spelled from to s → AgainAt Spelled depth s from to
  statement_again depth s from to (inl this) =
      respells_too (statement_tokens depth s) s s from to (λ start rest x. inl x) (assign_again depth s from to this)
  statement_again depth s from to (inr (inl this)) =
      respells_too (statement_tokens depth s) s s from to (λ start rest x. inr (inl x)) (let_again depth s from to this)
  statement_again depth s from to (inr (inr (inl (inl this)))) =
      respells_too (statement_tokens depth s) s s from to (λ start rest x. inr (inr (inl (inl x)))) (if_again depth s from to this)
  statement_again depth s from to (inr (inr (inl (inr this)))) =
      respells_too (statement_tokens depth s) s s from to (λ start rest x. inr (inr (inl (inr x)))) (if_else_again depth s from to this)
  statement_again depth s from to (inr (inr (inr (inl this)))) =
      respells_too (statement_tokens depth s) s s from to (λ start rest x. inr (inr (inr (inl x)))) (repeat_again depth s from to this)
  statement_again depth s from to (inr (inr (inr (inr (inl this))))) =
      respells_too (statement_tokens depth s) s s from to (λ start rest x. inr (inr (inr (inr (inl x))))) (for_again depth s from to this)
  statement_again depth s from to (inr (inr (inr (inr (inr (inl this)))))) =
      respells_too (statement_tokens depth s) s s from to (λ start rest x. inr (inr (inr (inr (inr (inl x)))))) (break_again depth s from to this)
  statement_again depth s from to (inr (inr (inr (inr (inr (inr (inl this))))))) =
      respells_too (statement_tokens depth s) s s from to (λ start rest x. inr (inr (inr (inr (inr (inr (inl x))))))) (return_again depth s from to this)
  statement_again depth s from to (inr (inr (inr (inr (inr (inr (inr (inl this)))))))) =
      respells_too (statement_tokens depth s) s s from to (λ start rest x. inr (inr (inr (inr (inr (inr (inr (inl x)))))))) (fail_again depth s from to this)
  statement_again depth s from to (inr (inr (inr (inr (inr (inr (inr (inr (inl this))))))))) =
      respells_too (statement_tokens depth s) s s from to (λ start rest x. inr (inr (inr (inr (inr (inr (inr (inr (inl x))))))))) (call_again depth s from to this)
  statement_again depth s from to (inr (inr (inr (inr (inr (inr (inr (inr (inr this))))))))) =
      respells_too (statement_tokens depth s) s s from to (λ start rest x. inr (inr (inr (inr (inr (inr (inr (inr (inr x))))))))) (assert_again depth s from to this)

-- ---- bodies

inside_again : (open_blocks depth : ℕ) (ss : List Statement) (from to : Input) → spelled_inside open_blocks from to ss
    → Respelled (spelled_inside open_blocks) (inside_tokens depth ss) ss from to
unfolding spelled_inside
inside_again zero depth ss from to none = absurd none
inside_again (suc open_blocks) depth ss from to many =
    let Inner = spelled_inside open_blocks in
    respells_many (grammar.StatementSpelled Inner) (grammar.StatementSpelled Inner) (statement_tokens depth) (statement_again Inner (inside_again open_blocks) depth) ss from to many

pub body_again : (depth : ℕ) (body : Statements) (from to : Input) → SpellsBody from to body → Respelled SpellsBody (block_tokens depth body) body from to
body_again depth body from to this =
    let again = block_again (spelled_inside deepest_block) (inside_again deepest_block) depth body (record from { calls = 0 }) to this in
    record {
      spelled = λ start rest echo. again.spelled (record start { calls = 0 }) rest (record { leads = echo.leads; same_end = echo.same_end; before = refl; after = echo.after });
      covers = again.covers;
    }
