-- What is kept by all that is spelled: one lemma for each way to put a grammar together.
use Rattle.std.proofs.Common.{◌≡◌, ℕ, suc, ◌+◌, ◌≤◌, Bool, Option, Some, None, List, [], ◌∷◌, length, drop, refl, sym, ap, ◌∙◌, subst, inl, inr, arith}
use Rattle.std.specs.List.{AllByRecursion}
use Rattle.fb_syntax.specs.declared.token.What.{What}
use Rattle.fb_syntax.specs.declared.token.Token.{Token}
use Rattle.fb_syntax.specs.Limits.{longest_source, most_calls}
use Rattle.fb_syntax.specs.Input.{Input, behind, by_first}
use Rattle.fb_syntax.specs.Spans.{Spelling, Takes, As, Is, Or, Pair, Behind, Before, Between, Made, Many, AtLeast, AtMost, Separated}
use Rattle.fb_syntax.proofs.ProperTokens.{IsProper, AllProper}
use Rattle.fb_syntax.proofs.Turns.{step_shorter}
use Rattle.fb_syntax.proofs.Sound.{fewer}

pub record IsFine (input : Input) : Type 0 where
  pub proper : AllProper input.left
  pub short : length input.left ≤ longest_source
  pub called : input.calls ≤ most_calls

pub record Counts (A : Type 0) : Type 0 where
  -- the calls of the body behind a thing, by those before it
  pub calls : A → ℕ → ℕ
  -- the statements in it
  pub statements : A → ℕ

-- neither calls nor statements
abbrev pub none : {A : Type 0} → Counts A
none = record { calls = λ x n. n; statements = λ x. 0 }

abbrev pub one_more : {A : Type 0} → Counts A → Counts A
one_more counts = record { calls = counts.calls; statements = λ x. suc (counts.statements x) }

abbrev pub both : {A B : Type 0} → Counts A → Counts B → Counts (A × B)
both a b = record { calls = λ p n. b.calls p.1 (a.calls p.0 n); statements = λ p. a.statements p.0 + b.statements p.1 }

abbrev pub each_calls : {A : Type 0} → (A → ℕ → ℕ) → List A → ℕ → ℕ
each_calls calls [] n = n
each_calls calls (x ∷ xs) n = each_calls calls xs (calls x n)

abbrev pub each_statements : {A : Type 0} → (A → ℕ) → List A → ℕ
each_statements statements [] = 0
each_statements statements (x ∷ xs) = statements x + each_statements statements xs

abbrev pub each : {A : Type 0} → Counts A → Counts (List A)
each counts = record { calls = each_calls counts.calls; statements = each_statements counts.statements }

-- the thing is as it should be, and what is left too; no more statements were read than tokens
pub record Kept {A : Type 0} (Fact : A → Type 0) (counts : Counts A) (start rest : Input) (x : A) : Type 0 where
  pub is : Fact x
  pub fine : IsFine rest
  pub called : rest.calls ≡ counts.calls x start.calls
  pub fewer : counts.statements x + length rest.left ≤ length start.left

pub record Keeps {A : Type 0} (This : Spelling A) (Fact : A → Type 0) (counts : Counts A) : Type 0 where
  pub kept : (start rest : Input) (x : A) → IsFine start → This start rest x → Kept Fact counts start rest x

-- ---- the first token

rest_proper : (left : List Token) → AllProper left → AllProper (drop 1 left)
rest_proper [] h = tt
rest_proper (first ∷ rest) h = h.1

pub behind_fine : (input : Input) → IsFine input → IsFine (behind input)
behind_fine input fine =
    record { proper = rest_proper input.left fine.proper; short = omega (arith, fine.short, fewer input); called = fine.called }

-- what is left behind the first token
record Stepped (start rest : Input) : Type 0 where
  fine : IsFine rest
  called : rest.calls ≡ start.calls
  fewer : suc (length rest.left) ≤ length start.left

stepped : (kind : What → Bool) (start rest : Input) → IsFine start → Takes kind start rest → Stepped start rest
stepped kind start rest fine takes =
    subst (λ (input : Input). Stepped start input) (sym takes.1)
    (record { fine = behind_fine start fine; called = refl; fewer = omega (arith, step_shorter kind start takes.0) })

first_as : {A : Type 0} (thing : What → Option A) (Fact : A → Type 0) (left : List Token) (x : A)
    → ((token : What) (x : A) → IsProper token → thing token ≡ Some x → Fact x) → AllProper left → by_first left None thing ≡ Some x → Fact x
first_as thing Fact [] x good proper h = absurd (let no_way = h in cc)
first_as thing Fact (first ∷ rest) x good proper h = good first.what x proper.0 h

pub keeps_as : {A : Type 0} (thing : What → Option A) (Fact : A → Type 0)
    → ((token : What) (x : A) → IsProper token → thing token ≡ Some x → Fact x) → Keeps (As thing) Fact none
keeps_as thing Fact good =
    record {
      kept = λ start rest x fine spelled. subst (λ (input : Input). Kept Fact none start input x) (sym spelled.1)
          (record {
            is = first_as thing Fact start.left x good fine.proper spelled.0;
            fine = behind_fine start fine;
            called = refl;
            fewer = omega (arith, fewer start);
          });
    }

pub keeps_is : {A : Type 0} (kind : What → Bool) (thing : A) → Keeps (Is kind thing) (λ x. x ≡ thing) none
keeps_is kind thing =
    record {
      kept = λ start rest x fine spelled. (
          let s = stepped kind start rest fine spelled.0 in
          record { is = spelled.1; fine = s.fine; called = s.called; fewer = omega (arith, s.fewer) });
    }

-- ---- something made of what is spelled

-- what is made of things that keep this keeps that
pub record Passes {A B : Type 0} (make : A → B) (Fact : A → Type 0) (a : Counts A) (Fact' : B → Type 0) (b : Counts B) : Type 0 where
  pub is : (x : A) → Fact x → Fact' (make x)
  pub calls : (x : A) (n : ℕ) → Fact x → b.calls (make x) n ≡ a.calls x n
  pub statements : (x : A) → Fact x → b.statements (make x) ≤ a.statements x

passed : {A B : Type 0} {Fact : A → Type 0} {a : Counts A} {Fact' : B → Type 0} {b : Counts B} (make : A → B) (start rest : Input) (x : A)
    → Passes make Fact a Fact' b → Kept Fact a start rest x → Kept Fact' b start rest (make x)
passed make start rest x on k =
    record {
      is = on.is x k.is;
      fine = k.fine;
      called = k.called ∙ sym (on.calls x start.calls k.is);
      fewer = omega (arith, k.fewer, on.statements x k.is);
    }

pub keeps_made : {A B : Type 0} {This : Spelling A} {Fact : A → Type 0} {a : Counts A} {Fact' : B → Type 0} {b : Counts B} (make : A → B)
    → Passes make Fact a Fact' b → Keeps This Fact a → Keeps (Made make This) Fact' b
keeps_made {B = B} {Fact' = Fact'} {b = b} make on k =
    record {
      kept = λ start rest y fine. λ (x, spelled, is). subst (λ (z : B). Kept Fact' b start rest z) (sym is)
          (passed make start rest x on (k.kept start rest x fine spelled));
    }

pub keeps_so : {A : Type 0} {This : Spelling A} {Fact : A → Type 0} {a : Counts A} {Fact' : A → Type 0} {b : Counts A}
    → Passes (λ x. x) Fact a Fact' b → Keeps This Fact a → Keeps This Fact' b
keeps_so on k = record { kept = λ start rest x fine spelled. passed (λ x. x) start rest x on (k.kept start rest x fine spelled) }

-- where neither calls nor statements are counted
pub made_plain : {A B : Type 0} {This : Spelling A} {Fact : A → Type 0} {Fact' : B → Type 0} (make : A → B)
    → ((x : A) → Fact x → Fact' (make x)) → Keeps This Fact none → Keeps (Made make This) Fact' none
made_plain make on k = keeps_made make (record { is = on; calls = λ x n h. refl; statements = λ x h. omega arith }) k

pub keeps_weaker : {A : Type 0} {This : Spelling A} {Fact Fact' : A → Type 0} {counts : Counts A}
    → ((x : A) → Fact x → Fact' x) → Keeps This Fact counts → Keeps This Fact' counts
keeps_weaker on k = keeps_so (record { is = on; calls = λ x n h. refl; statements = λ x h. omega arith }) k

-- ---- one thing behind the other

pub keeps_or : {A : Type 0} {This That : Spelling A} {Fact : A → Type 0} {counts : Counts A}
    → Keeps This Fact counts → Keeps That Fact counts → Keeps (Or This That) Fact counts
keeps_or k l =
    record {
      kept = λ start rest x fine. elim [ inl this ↦ k.kept start rest x fine this | inr that ↦ l.kept start rest x fine that ];
    }

pub keeps_pair : {A B : Type 0} {This : Spelling A} {That : Spelling B} {Fact : A → Type 0} {Fact' : B → Type 0} {a : Counts A} {b : Counts B}
    → Keeps This Fact a → Keeps That Fact' b → Keeps (Pair This That) (λ p. Fact p.0 × Fact' p.1) (both a b)
keeps_pair {b = b} k l =
    record {
      kept = λ start rest p fine. λ (mid, this, that). (
          let f = k.kept start mid p.0 fine this in
          let g = l.kept mid rest p.1 f.fine that in
          record { is = (f.is, g.is); fine = g.fine; called = g.called ∙ ap (b.calls p.1) f.called; fewer = omega (arith, f.fewer, g.fewer) });
    }

-- the token counts as one more statement
pub keeps_first : {A : Type 0} {This : Spelling A} {Fact : A → Type 0} {counts : Counts A} (kind : What → Bool)
    → Keeps This Fact counts → Keeps (Behind kind This) Fact (one_more counts)
keeps_first {counts = counts} kind k =
    record {
      kept = λ start rest x fine. λ (mid, takes, this). (
          let s = stepped kind start mid fine takes in
          let f = k.kept mid rest x s.fine this in
          record { is = f.is; fine = f.fine; called = f.called ∙ ap (counts.calls x) s.called; fewer = omega (arith, f.fewer, s.fewer) });
    }

pub keeps_behind : {A : Type 0} {This : Spelling A} {Fact : A → Type 0} {counts : Counts A} (kind : What → Bool)
    → Keeps This Fact counts → Keeps (Behind kind This) Fact counts
keeps_behind kind k = keeps_so (record { is = λ x h. h; calls = λ x n h. refl; statements = λ x h. omega arith }) (keeps_first kind k)

pub keeps_before : {A : Type 0} {This : Spelling A} {Fact : A → Type 0} {counts : Counts A} (kind : What → Bool)
    → Keeps This Fact counts → Keeps (Before This kind) Fact counts
keeps_before kind k =
    record {
      kept = λ start rest x fine. λ (mid, this, takes). (
          let f = k.kept start mid x fine this in
          let s = stepped kind mid rest f.fine takes in
          record { is = f.is; fine = s.fine; called = s.called ∙ f.called; fewer = omega (arith, f.fewer, s.fewer) });
    }

pub keeps_between : {A : Type 0} {This : Spelling A} {Fact : A → Type 0} {counts : Counts A} (opening closing : What → Bool)
    → Keeps This Fact counts → Keeps (Between opening This closing) Fact counts
keeps_between opening closing k = keeps_behind opening (keeps_before closing k)

-- ---- lists

nothing_kept : {A : Type 0} (Fact : A → Type 0) (counts : Counts A) (start rest : Input) → IsFine start → start ≡ rest
    → Kept (AllByRecursion Fact) (each counts) start rest []
nothing_kept Fact counts start rest fine same =
    subst (λ (input : Input). Kept (AllByRecursion Fact) (each counts) start input []) same
    (record { is = tt; fine = fine; called = refl; fewer = omega arith })

many_kept : {A : Type 0} (This : Spelling A) (Fact : A → Type 0) (counts : Counts A) (xs : List A) → Keeps This Fact counts
    → (start rest : Input) → IsFine start → Many This start rest xs → Kept (AllByRecursion Fact) (each counts) start rest xs
many_kept This Fact counts [] k start rest fine same = nothing_kept Fact counts start rest fine same
many_kept This Fact counts (x ∷ xs) k start rest fine (mid, this, more) =
    let f = k.kept start mid x fine this in
    let g = many_kept This Fact counts xs k mid rest f.fine more in
    record { is = (f.is, g.is); fine = g.fine; called = g.called ∙ ap (each_calls counts.calls xs) f.called; fewer = omega (arith, f.fewer, g.fewer) }

pub keeps_many : {A : Type 0} {This : Spelling A} {Fact : A → Type 0} {counts : Counts A}
    → Keeps This Fact counts → Keeps (Many This) (AllByRecursion Fact) (each counts)
keeps_many {This = This} {Fact = Fact} {counts = counts} k =
    record { kept = λ start rest xs fine spelled. many_kept This Fact counts xs k start rest fine spelled }

each_uncalled : {A : Type 0} (xs : List A) (n : ℕ) → n ≡ each_calls (λ (x : A) m. m) xs n
each_uncalled [] n = refl
each_uncalled (x ∷ xs) n = each_uncalled xs n

pub many_plain : {A : Type 0} {This : Spelling A} {Fact : A → Type 0} → Keeps This Fact none → Keeps (Many This) (AllByRecursion Fact) none
many_plain k = keeps_so (record { is = λ xs h. h; calls = λ xs n h. each_uncalled xs n; statements = λ xs h. omega arith }) (keeps_many k)

separated_kept : {A : Type 0} (between : What → Bool) (This : Spelling A) (Fact : A → Type 0) (xs : List A) → Keeps This Fact none
    → (start rest : Input) → IsFine start → Separated between This start rest xs → Kept (AllByRecursion Fact) none start rest xs
separated_kept between This Fact [] k start rest fine same =
    subst (λ (input : Input). Kept (AllByRecursion Fact) none start input []) same
    (record { is = tt; fine = fine; called = refl; fewer = omega arith })
separated_kept between This Fact (x ∷ xs) k start rest fine (mid, this, more) =
    let f = k.kept start mid x fine this in
    let g = (many_plain (keeps_behind between k)).kept mid rest xs f.fine more in
    record { is = (f.is, g.is); fine = g.fine; called = g.called ∙ f.called; fewer = omega (arith, f.fewer, g.fewer) }

pub keeps_separated : {A : Type 0} {This : Spelling A} {Fact : A → Type 0} (between : What → Bool)
    → Keeps This Fact none → Keeps (Separated between This) (AllByRecursion Fact) none
keeps_separated {This = This} {Fact = Fact} between k =
    record { kept = λ start rest xs fine spelled. separated_kept between This Fact xs k start rest fine spelled }

-- as many as are counted
with_length : {A : Type 0} {Fact Fact' : A → Type 0} {counts : Counts A} (start rest : Input) (x : A)
    → (Fact x → Fact' x) → Kept Fact counts start rest x → Kept Fact' counts start rest x
with_length start rest x on k = record { is = on k.is; fine = k.fine; called = k.called; fewer = k.fewer }

pub keeps_at_least : {A : Type 0} {All : Spelling (List A)} {Fact : List A → Type 0} {counts : Counts (List A)} (least : ℕ)
    → Keeps All Fact counts → Keeps (AtLeast least All) (λ xs. (least ≤ length xs) × Fact xs) counts
keeps_at_least least k =
    record { kept = λ start rest xs fine. λ (some, spelled). with_length start rest xs (λ h. (some, h)) (k.kept start rest xs fine spelled) }

pub keeps_at_most : {A : Type 0} {All : Spelling (List A)} {Fact : List A → Type 0} {counts : Counts (List A)} (most : ℕ)
    → Keeps All Fact counts → Keeps (AtMost most All) (λ xs. (length xs ≤ most) × Fact xs) counts
keeps_at_most most k =
    record { kept = λ start rest xs fine. λ (few, spelled). with_length start rest xs (λ h. (few, h)) (k.kept start rest xs fine spelled) }
