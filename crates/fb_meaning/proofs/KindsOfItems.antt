-- What is given of items and of parameters.
use Rattle.std.specs.Prelude.{◌≡◌, ℕ, ℤ, suc, Bool, true, false, if◌then◌else◌, bytes_eq, List, [], ◌∷◌, Contains, map, IfSome, Option, Some, ◌⊎◌}
use Rattle.std.proofs.Common.{refl, sym, ap, ◌∙◌, subst, inl, inr, arith}
use Rattle.std.proofs.lemmas.List.{get_or-map, length-map}
use Rattle.std.proofs.lemmas.Slice.Eq.{bytes_eq-Decides}
use Rattle.fb_base.specs.declared.kind.Kind.{Kind}
use Rattle.fb_base.specs.declared.kind.Kind.TheVariants.{Int, Bool as Boolean, Text, Ints, Bools, Texts}
use Rattle.fb_base.specs.declared.items.Items.{Items}
use Rattle.fb_base.specs.declared.items.Items.TheVariants as items
use Rattle.fb_base.specs.declared.value.Value.{Value}
use Rattle.fb_base.specs.declared.value.Value.TheVariants as value
use Rattle.fb_base.specs.Kinds.{kind_of_list}
use Rattle.fb_base.specs.Values.{HasKind}
use Rattle.fb_syntax.specs.Trees.{Parameter, MethodTree}
use Rattle.fb_check.specs.Accepted.{AllDiffer, has_parameters}
use Rattle.fb_check.specs.Declarations.{kinds_of_parameters}
use Rattle.fb_check.specs.Scopes.{Scope, kind_named}
use Rattle.fb_check.proofs.DeclarationLaws.{contains_head, contains_tail, contains_cases}
use Rattle.fb_meaning.specs.Bodies.{items_of, values_in}
use Rattle.fb_meaning.specs.Kinds.{AreOfScope}
use Rattle.fb_meaning.specs.Records.{HaveKinds}
use Rattle.fb_meaning.specs.Variables.{parameters_with}
use Rattle.fb_meaning.proofs.KindsKept.{AllHave}
use Rattle.fb_meaning.proofs.ScopeValues.{Declares, binding_of}

-- ---- what is given

pub given_some : {A : Type 0} (P : A → Type 0) (o : Option A) (x : A) → IfSome o P → o ≡ Some x → P x
given_some P o x h e = subst (λ p. IfSome p P) e h

ints_have : (xs : List ℤ) → AllHave (map value.Int xs) Int
ints_have [] = tt
ints_have (x ∷ xs) = (refl, ints_have xs)

bools_have : (xs : List Bool) → AllHave (map value.Bool xs) Boolean
bools_have [] = tt
bools_have (x ∷ xs) = (refl, bools_have xs)

texts_have : (xs : List (List ℕ)) → AllHave (map value.Text xs) Text
texts_have [] = tt
texts_have (x ∷ xs) = (refl, texts_have xs)

-- the items of a list have the kind of its items
items_have : (xs : Items) (kind item : Kind) → HasKind (value.List xs) kind → kind_of_list item ≡ Some kind → AllHave (values_in xs) item
items_have items.Empty kind item h e = tt
items_have (items.Ints xs) kind Int h e = ints_have xs
items_have (items.Ints xs) kind Boolean h e = let same : kind ≡ Bools = cc in let wrong = subst (HasKind (value.List (items.Ints xs))) same h in absurd (cc)
items_have (items.Ints xs) kind Text h e = let same : kind ≡ Texts = cc in let wrong = subst (HasKind (value.List (items.Ints xs))) same h in absurd (cc)
items_have (items.Ints xs) kind Ints h e = absurd (cc)
items_have (items.Ints xs) kind Bools h e = absurd (cc)
items_have (items.Ints xs) kind Texts h e = absurd (cc)
items_have (items.Bools xs) kind Boolean h e = bools_have xs
items_have (items.Bools xs) kind Int h e = let same : kind ≡ Ints = cc in let wrong = subst (HasKind (value.List (items.Bools xs))) same h in absurd (cc)
items_have (items.Bools xs) kind Text h e = let same : kind ≡ Texts = cc in let wrong = subst (HasKind (value.List (items.Bools xs))) same h in absurd (cc)
items_have (items.Bools xs) kind Ints h e = absurd (cc)
items_have (items.Bools xs) kind Bools h e = absurd (cc)
items_have (items.Bools xs) kind Texts h e = absurd (cc)
items_have (items.Texts xs) kind Text h e = texts_have xs
items_have (items.Texts xs) kind Int h e = let same : kind ≡ Ints = cc in let wrong = subst (HasKind (value.List (items.Texts xs))) same h in absurd (cc)
items_have (items.Texts xs) kind Boolean h e = let same : kind ≡ Bools = cc in let wrong = subst (HasKind (value.List (items.Texts xs))) same h in absurd (cc)
items_have (items.Texts xs) kind Ints h e = absurd (cc)
items_have (items.Texts xs) kind Bools h e = absurd (cc)
items_have (items.Texts xs) kind Texts h e = absurd (cc)

pub list_items : (v : Value) (vs : List Value) (kind item : Kind) → HasKind v kind → kind_of_list item ≡ Some kind → items_of v ≡ Some vs → AllHave vs item
list_items (value.List xs) vs kind item h e is = let same : values_in xs ≡ vs = cc in subst (λ ys. AllHave ys item) same (items_have xs kind item h e)
list_items (value.Int n) vs kind item h e is = absurd (cc)
list_items (value.Bool b) vs kind item h e is = absurd (cc)
list_items (value.Text text) vs kind item h e is = absurd (cc)

-- ---- parameters

abbrev pub parameters_scope : List Parameter → Scope
parameters_scope params = map (λ param. binding_of param.name param.kind) params

pub hold_parameters : (params : List Parameter) (args : List Value) → HaveKinds args (kinds_of_parameters params) → AreOfScope (parameters_scope params) (parameters_with params args)
hold_parameters [] [] h = tt
hold_parameters [] (v ∷ args) h = absurd h
hold_parameters (param ∷ params) [] h = absurd h
hold_parameters (param ∷ params) (v ∷ args) h = (refl, h.0, hold_parameters params args h.1)

there_parameters : (params : List Parameter) → AllDiffer (map (λ param. param.name) params) → (name : List ℕ) (kind : Kind) → Contains params (record { name = name; kind = kind })
    → kind_named (parameters_scope params) name ≡ Some kind
there_parameters [] differ name kind has = absurd (omega (arith, has.1))
there_parameters (param ∷ params) differ name kind has =
    by_place (there_parameters params (λ i j d before inside. differ (suc i) (suc j) d (omega (arith, before)) (omega (arith, inside))) name kind)
    (contains_cases param (record { name = name; kind = kind }) params has)
  where
    other_name : Contains params (record { name = name; kind = kind }) → ¬ (name ≡ param.name)
    other_name later same =
        differ 0 (suc later.0) name (omega arith) (rw (length-map params (λ (p : Parameter). p.name)) (omega (arith, later.1)))
        (sym same ∙ sym (get_or-map (λ (p : Parameter). p.name) params later.0 (record { name = name; kind = kind }) name later.1 ∙ ap (λ (p : Parameter). p.name) later.2))

    by_test : (Contains params (record { name = name; kind = kind }) → kind_named (parameters_scope params) name ≡ Some kind) → Contains params (record { name = name; kind = kind })
        → (b : Bool) → bytes_eq name param.name ≡ b → kind_named (parameters_scope (param ∷ params)) name ≡ Some kind
    by_test rest later true e = absurd (other_name later ((bytes_eq-Decides name param.name).0 e))
    by_test rest later false e = ap (λ b. if b then Some param.kind else kind_named (parameters_scope params) name) e ∙ rest later

    by_place : (Contains params (record { name = name; kind = kind }) → kind_named (parameters_scope params) name ≡ Some kind)
        → (param ≡ record { name = name; kind = kind }) ⊎ Contains params (record { name = name; kind = kind }) → kind_named (parameters_scope (param ∷ params)) name ≡ Some kind
    by_place rest (inl same) =
        ap (λ (p : Parameter). if bytes_eq name p.name then Some p.kind else kind_named (parameters_scope params) name) same
        ∙ ap (λ b. if b then Some kind else kind_named (parameters_scope params) name) ((bytes_eq-Decides name name).1 refl)
    by_place rest (inr later) = by_test rest later (bytes_eq name param.name) refl

found_parameters : (params : List Parameter) (name : List ℕ) (kind : Kind) → kind_named (parameters_scope params) name ≡ Some kind → Contains params (record { name = name; kind = kind })
found_parameters [] name kind e = absurd (cc)
found_parameters (param ∷ params) name kind e = by_test (bytes_eq name param.name) refl e (found_parameters params name kind)
  where
    by_test : (b : Bool) → bytes_eq name param.name ≡ b → (if b then Some param.kind else kind_named (parameters_scope params) name) ≡ Some kind
        → (kind_named (parameters_scope params) name ≡ Some kind → Contains params (record { name = name; kind = kind })) → Contains (param ∷ params) (record { name = name; kind = kind })
    by_test true is found rest =
        let names : name ≡ param.name = (bytes_eq-Decides name param.name).0 is in
        let kinds : param.kind ≡ kind = cc in
        subst (λ (p : Parameter). Contains (param ∷ params) p) (λ i. record { name = sym names i; kind = kinds i }) (contains_head param params)
    by_test false is found rest = contains_tail param (record { name = name; kind = kind }) params (rest found)

-- the scope of parameters whose names differ declares them
pub declare_parameters : (method : MethodTree) → AllDiffer (map (λ param. param.name) method.params) → Declares (parameters_scope method.params) (has_parameters method)
declare_parameters method differ name kind = (there_parameters method.params differ name kind, found_parameters method.params name kind)
