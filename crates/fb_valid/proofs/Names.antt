-- The record that a line names is the one that was named.
use Rattle.std.proofs.Common.{◌≡◌, ◌↔◌, ℕ, Option, Some, None, List, [], ◌∷◌, refl, sym, ap, ◌∙◌, subst}
use Rattle.std.specs.Prelude.{option_map, option_and_then}
use Rattle.std.proofs.lemmas.Option.{same_Some}
use Rattle.fb_base.specs.declared.method.MethodId.{MethodId}
use Rattle.fb_base.specs.declared.method.MethodName.{MethodName}
use Rattle.fb_syntax.specs.Trees.{ServicesTree}
use Rattle.fb_check.specs.Declarations.{declarations_of, number_in}
use Rattle.fb_check.specs.Programs.{signature_at}
use Rattle.fb_tree.specs.declared.asked.Asked.{Asked}
use Rattle.fb_tree.specs.declared.recorded.Record.{Record}
use Rattle.fb_report.specs.declared.named.NamedAsked.{NamedAsked}
use Rattle.fb_report.specs.declared.named.NamedRecord.{NamedRecord}
use Rattle.fb_report.specs.Names.{each_of, name_of, named_asked, named_record, method_named, asked_named, record_named}

-- ---- each of a list

-- the first, and the others
pub record IsPair {A B : Type 0} (f : A → Option B) (x : A) (xs : List A) (out : List B) : Type 0 where
  pub first : B
  pub others : List B
  pub first_is : f x ≡ Some first
  pub others_are : each_of f xs ≡ Some others
  pub out_is : out ≡ first ∷ others

pub each_pair : {A B : Type 0} (f : A → Option B) (x : A) (xs : List A) (out : List B) → each_of f (x ∷ xs) ≡ Some out → IsPair f x xs out
each_pair {A} {B} f x xs out is = by (f x) refl (each_of f xs) refl is
  where
    by : (o : Option B) → f x ≡ o → (os : Option (List B)) → each_of f xs ≡ os
        → option_and_then (λ y. option_map (λ ys. y ∷ ys) os) o ≡ Some out → IsPair f x xs out
    by None one os more e = absurd (cc)
    by (Some y) one None more e = absurd (cc)
    by (Some y) one (Some ys) more e = record { first = y; others = ys; first_is = one; others_are = more; out_is = sym (same_Some (y ∷ ys) out e) }

each_back : {A B : Type 0} (f : A → Option B) (g : B → Option A) → ((x : A) (y : B) → f x ≡ Some y → g y ≡ Some x) → (xs : List A) (out : List B)
    → each_of f xs ≡ Some out → each_of g out ≡ Some xs
each_back f g back [] out is = subst (λ ys. each_of g ys ≡ Some []) (same_Some [] out is) refl
each_back f g back (x ∷ xs) out is =
    let parts = each_pair f x xs out is in
    ap (each_of g) parts.out_is
    ∙ ap (option_and_then (λ y. option_map (λ ys. y ∷ ys) (each_of g parts.others))) (back x parts.first parts.first_is)
    ∙ ap (option_map (λ ys. x ∷ ys)) (each_back f g back xs parts.others parts.others_are)

-- what is made of something is made of what is there
some_map : {A B : Type 0} (f : A → B) (o : Option A) (y : B) → option_map f o ≡ Some y → (x : A) × (o ≡ Some x) × (f x ≡ y)
some_map f None y is = absurd (cc)
some_map f (Some x) y is = (x, refl, same_Some (f x) y is)

some_then : {A B : Type 0} (f : A → Option B) (o : Option A) (y : B) → option_and_then f o ≡ Some y → (x : A) × (o ≡ Some x) × (f x ≡ Some y)
some_then f None y is = absurd (cc)
some_then f (Some x) y is = (x, refl, is)

-- ---- records

module _ (services : ServicesTree) (names : (method : ℕ) (name : MethodName) →
    (option_map (λ s. s.name) (signature_at services method) ≡ Some name) ↔ (number_in (declarations_of services) name.service name.method ≡ Some method)) where
  method_back : (method : MethodId) (name : MethodName) → name_of services method ≡ Some name → method_named services name ≡ Some method
  method_back method name is = ap (option_map (λ m. record { 0 = m })) ((names method.0 name).0 is)

  asked_back : (asked : Asked) (name : NamedAsked) → named_asked services asked ≡ Some name → asked_named services name ≡ Some asked
  asked_back asked name is =
      let made = some_map _ (name_of services asked.callee) name is in
      subst (λ n. asked_named services n ≡ Some asked) made.2
      (ap (option_map (λ callee. record { entry = asked.entry; callee = callee; args = asked.args; reply = asked.reply })) (method_back asked.callee made.0 made.1))

  pub record_back : (item : Record) (name : NamedRecord) → named_record services item ≡ Some name → record_named services name ≡ Some item
  record_back item name is =
      let method = some_then _ (name_of services item.method) name is in
      let calls = some_map _ (each_of (named_asked services) item.calls) name method.2 in
      let back = each_back (named_asked services) (asked_named services) asked_back item.calls calls.0 calls.1 in
      subst (λ n. record_named services n ≡ Some item) calls.2
      (ap (option_and_then (λ method. option_map (λ calls. record { method = method; args = item.args; calls = calls; reply = item.reply; steps = item.steps })
      (each_of (asked_named services) calls.0))) (method_back item.method method.0 method.1)
      ∙ ap (option_map (λ calls. record { method = item.method; args = item.args; calls = calls; reply = item.reply; steps = item.steps })) back)
