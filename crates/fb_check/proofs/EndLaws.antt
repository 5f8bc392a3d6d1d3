-- A block ends exactly where its check says so.
use Rattle.std.proofs.Common.{◌≡◌, Bool, true, false, ◌&&◌, ◌||◌, refl, ap, ◌∙◌, inl, inr, ◌⊎◌, ⊎_elim}
use Rattle.fb_syntax.specs.Trees.{Statement, Let, Assign, If, IfElse, Repeat, For, Break, Return, Fail, Call, Assert, Statements, NoStatements, AndStatements}
use Rattle.fb_check.specs.Ends.{statement_ends, block_ends}
use Rattle.fb_check.specs.Accepted.{StatementEnds, Ends}

both_true : (a b : Bool) → (a && b) ≡ true → (a ≡ true) × (b ≡ true)
both_true true b h = (refl, h)
both_true false b h = absurd (cc)

first_or : (a b : Bool) → a ≡ true → (a || b) ≡ true
first_or true b h = refl
first_or false b h = absurd (cc)

second_or : (a b : Bool) → b ≡ true → (a || b) ≡ true
second_or true b h = refl
second_or false b h = h

one_of : (a b : Bool) (P Q : Type 0) → (a || b) ≡ true → (a ≡ true → P) → (b ≡ true → Q) → P ⊎ Q
one_of true b P Q h p q = inl (p refl)
one_of false b P Q h p q = inr (q h)

mutual
  ends_statement : (s : Statement) → statement_ends s ≡ true → StatementEnds s
  ends_statement (Return value) h = tt
  ends_statement (Fail code) h = tt
  ends_statement (IfElse cond body other) h =
      let both = both_true (block_ends body) (block_ends other) h in
      (ends_block body both.0, ends_block other both.1)
  ends_statement (Let name value) h = absurd (cc)
  ends_statement (Assign name value) h = absurd (cc)
  ends_statement (If cond body) h = absurd (cc)
  ends_statement (Repeat times body) h = absurd (cc)
  ends_statement (For name over body) h = absurd (cc)
  ends_statement Break h = absurd (cc)
  ends_statement (Call _ _ _ _ _) h = absurd (cc)
  ends_statement (Assert cond) h = absurd (cc)

  pub ends_block : (ss : Statements) → block_ends ss ≡ true → Ends ss
  ends_block NoStatements h = absurd (cc)
  ends_block (AndStatements s ss) h =
      one_of (statement_ends s) (block_ends ss) (StatementEnds s) (Ends ss) h (λ is. ends_statement s is) (λ is. ends_block ss is)

mutual
  statement_has_end : (s : Statement) → StatementEnds s → statement_ends s ≡ true
  statement_has_end (Return value) ends = refl
  statement_has_end (Fail code) ends = refl
  statement_has_end (IfElse cond body other) ends = ap (λ b. b && block_ends other) (block_has_end body ends.0) ∙ block_has_end other ends.1
  statement_has_end (Let name value) ends = absurd ends
  statement_has_end (Assign name value) ends = absurd ends
  statement_has_end (If cond body) ends = absurd ends
  statement_has_end (Repeat times body) ends = absurd ends
  statement_has_end (For name over body) ends = absurd ends
  statement_has_end Break ends = absurd ends
  statement_has_end (Call _ _ _ _ _) ends = absurd ends
  statement_has_end (Assert cond) ends = absurd ends

  pub block_has_end : (ss : Statements) → Ends ss → block_ends ss ≡ true
  block_has_end NoStatements ends = absurd ends
  block_has_end (AndStatements s ss) ends =
      ⊎_elim (λ first. first_or (statement_ends s) (block_ends ss) (statement_has_end s first))
      (λ rest. second_or (statement_ends s) (block_ends ss) (block_has_end ss rest)) ends
