-- Whether a record fits its method and the methods that it calls.
use Rattle.std.proofs.Common.{◌≡◌, ℕ, ◌<◌, ◌≤◌, Bool, true, false, ◌&&◌, IsTrue, Option, Some, None, option_map, List, [], ◌∷◌, length, refl, sym, ap, ◌∙◌, subst, arith}
use Rattle.std.proofs.lemmas.Bool.{false≢true}
use Rattle.std.proofs.lemmas.Option.{slice_get_within, same_Some}
use Rattle.fb_base.specs.declared.kind.Kind.{Kind}
use Rattle.fb_base.specs.declared.value.Value.{Value}
use Rattle.fb_base.specs.Values.{has_kind}
use Rattle.fb_syntax.specs.Trees.{MethodTree, ServicesTree}
use Rattle.fb_check.specs.Declarations.{kinds_of_parameters}
use Rattle.fb_check.specs.Programs.{callee_at, method_at, methods_of}
use Rattle.fb_tree.specs.declared.asked.Asked.{Asked}
use Rattle.fb_tree.specs.declared.recorded.Record.{Record}
use Rattle.fb_meaning.specs.Each.{HoldsOfEach}
use Rattle.fb_meaning.specs.Records.{HaveKinds, IsCallOf, IsOkOfKind, IsTrueRecord}
use Rattle.fb_meaning.specs.Replays.{IsMadeAgain}
use Rattle.fb_evidence.specs.Deciding.{Decides}
use Rattle.fb_evidence.specs.Fitting.{IsFitting, have_kinds}

pub true_decides : (b : Bool) → Decides (IsTrue b) b
true_decides true = refl
true_decides false = false≢true

both_decide : (a b : Bool) (Q : Type 0) → Decides Q b → Decides (IsTrue a × Q) (a && b)
both_decide true true Q d = (refl, d)
both_decide true false Q d = λ both. d both.1
both_decide false b Q d = λ both. false≢true both.0

pub kinds_decide : (vs : List Value) (kinds : List Kind) → Decides (HaveKinds vs kinds) (have_kinds vs kinds)
unfolding have_kinds
kinds_decide [] [] = tt
kinds_decide [] (kind ∷ kinds) = λ wrong. wrong
kinds_decide (v ∷ vs) [] = λ wrong. wrong
kinds_decide (v ∷ vs) (kind ∷ kinds) = both_decide (has_kind v kind) (have_kinds vs kinds) (HaveKinds vs kinds) (kinds_decide vs kinds)

-- what is looked up and then read
read_of : {A B : Type 0} (f : A → B) (found : Option A) (y : B) → option_map f found ≡ Some y → (x : A) × (found ≡ Some x) × (f x ≡ y)
read_of f None y is = absurd (cc)
read_of f (Some x) y is = (x, refl, same_Some (f x) y is)

-- ---- calls

module _ (services : ServicesTree) (method : ℕ) (asked : Asked) where
  pub no_site : callee_at services method asked.entry.site ≡ None → ¬ (IsCallOf services method asked)
  no_site none call = (let both = sym none ∙ call.at_site in absurd (cc))

  pub other_callee : (callee : ℕ) → callee_at services method asked.entry.site ≡ Some callee → ¬ (callee ≡ asked.callee.0) → ¬ (IsCallOf services method asked)
  other_callee callee at other call = other (same_Some callee asked.callee.0 (sym at ∙ call.at_site))

  pub reply_decides : (callee : ℕ) (kind : Kind) (answer : Bool) → callee_at services method asked.entry.site ≡ Some callee → callee ≡ asked.callee.0
      → option_map (λ m. m.gives) (method_at services callee) ≡ Some kind → Decides (IsOkOfKind kind asked.reply) answer → Decides (IsCallOf services method asked) answer
  reply_decides callee kind true at same gives fits =
      let found = read_of (λ m. m.gives) (method_at services callee) kind gives in
      record {
        callee = found.0;
        at_site = at ∙ ap Some same;
        there = ap (method_at services) (sym same) ∙ found.1;
        fits = subst (λ k. IsOkOfKind k asked.reply) (sym found.2) fits;
      }
  reply_decides callee kind false at same gives fits = λ call.
      let found = read_of (λ m. m.gives) (method_at services callee) kind gives in
      let one = same_Some found.0 call.callee (sym found.1 ∙ ap (method_at services) same ∙ call.there) in
      fits (subst (λ k. IsOkOfKind k asked.reply) (sym (ap (λ (m : MethodTree). m.gives) one) ∙ found.2) call.fits)

-- ---- records

module _ (services : ServicesTree) (item : Record) where
  pub no_method : length (methods_of services) ≤ item.method.0 → ¬ (IsFitting services item)
  no_method high fitting =
      let low = slice_get_within (methods_of services) item.method.0 fitting.method fitting.there in
      omega (arith, low, high)

  pub is_within : IsFitting services item → item.method.0 < length (methods_of services)
  is_within fitting = slice_get_within (methods_of services) item.method.0 fitting.method fitting.there

  module _ (kinds : List Kind) (params : option_map (λ m. kinds_of_parameters m.params) (method_at services item.method.0) ≡ Some kinds) where
    takes : (fitting : IsFitting services item) → HaveKinds item.args kinds
    takes fitting =
        let found = read_of (λ m. kinds_of_parameters m.params) (method_at services item.method.0) kinds params in
        let one = same_Some fitting.method found.0 (sym fitting.there ∙ found.1) in
        subst (HaveKinds item.args) (ap (λ (m : MethodTree). kinds_of_parameters m.params) one ∙ found.2) fitting.args_fit

    pub other_kinds : have_kinds item.args kinds ≡ false → ¬ (IsFitting services item)
    other_kinds is fitting = (let decides = subst (Decides (HaveKinds item.args kinds)) is (kinds_decide item.args kinds) in decides (takes fitting))

    pub calls_decide : (answer : Bool) → have_kinds item.args kinds ≡ true → Decides (HoldsOfEach (IsCallOf services item.method.0) item.calls) answer
        → Decides (IsFitting services item) answer
    calls_decide true is fit =
        let found = read_of (λ m. kinds_of_parameters m.params) (method_at services item.method.0) kinds params in
        record {
          method = found.0;
          there = found.1;
          args_fit = subst (HaveKinds item.args) (sym found.2) (subst (Decides (HaveKinds item.args kinds)) is (kinds_decide item.args kinds));
          calls_fit = fit;
        }
    calls_decide false is fit = λ fitting. fit fitting.calls_fit

  -- a record that fits is true exactly where it is made again
  pub never_true : (fuel : ℕ) → ¬ (IsFitting services item) → ¬ (IsTrueRecord services fuel item)
  never_true fuel unfit true_item =
      unfit (record { method = true_item.method; there = true_item.there; args_fit = true_item.args_fit; calls_fit = true_item.calls_fit })

  pub again_decides : (fuel : ℕ) (answer : Bool) → IsFitting services item → Decides (IsMadeAgain services fuel item) answer → Decides (IsTrueRecord services fuel item) answer
  again_decides fuel true fitting again = record {
    method = fitting.method;
    there = fitting.there;
    args_fit = fitting.args_fit;
    calls_fit = fitting.calls_fit;
    tree = again.tree;
    left = again.left;
    evaluated = again.done;
    recorded = again.recorded;
  }
  again_decides fuel false fitting again = λ true_item.
      again (record { tree = true_item.tree; left = true_item.left; done = true_item.evaluated; recorded = true_item.recorded })
