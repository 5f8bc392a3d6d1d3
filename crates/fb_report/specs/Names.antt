-- Records whose methods have names.
use Rattle.std.specs.Prelude.{◌≡◌, ℕ, ◌<◌, List, [], ◌∷◌, All, length, Option, Some, None, option_map, option_and_then}
use Rattle.fb_base.specs.declared.method.MethodId.{MethodId}
use Rattle.fb_base.specs.declared.method.MethodName.{MethodName}
use Rattle.fb_syntax.specs.Trees.{ServicesTree}
use Rattle.fb_check.specs.Declarations.{declarations_of, number_in}
use Rattle.fb_check.specs.Programs.{methods_of, signature_at}
use Rattle.fb_tree.specs.declared.asked.Asked.{Asked}
use Rattle.fb_tree.specs.declared.recorded.Record.{Record}
use Rattle.fb_report.specs.declared.named.NamedAsked.{NamedAsked}
use Rattle.fb_report.specs.declared.named.NamedRecord.{NamedRecord}

-- what each item gives, or none where one gives none
abbrev pub each_of : {A B : Type 0} → (A → Option B) → List A → Option (List B)
each_of f [] = Some []
each_of f (x ∷ xs) = option_and_then (λ y. option_map (λ ys. y ∷ ys) (each_of f xs)) (f x)

-- ---- from numbers to names

abbrev pub name_of : ServicesTree → MethodId → Option MethodName
name_of tree method = option_map (λ signature. signature.name) (signature_at tree method.0)

abbrev pub named_asked : ServicesTree → Asked → Option NamedAsked
named_asked tree asked =
    option_map (λ callee. record { entry = asked.entry; callee = callee; args = asked.args; reply = asked.reply }) (name_of tree asked.callee)

-- the record with the names of its methods, none where the services lack one
abbrev pub named_record : ServicesTree → Record → Option NamedRecord
named_record tree item =
    option_and_then (λ method. option_map (λ calls. record { method = method; args = item.args; calls = calls; reply = item.reply; steps = item.steps })
    (each_of (named_asked tree) item.calls)) (name_of tree item.method)

-- its methods are the services'
abbrev pub IsMethodOf : ServicesTree → MethodId → Type 0
IsMethodOf tree method = method.0 < length (methods_of tree)

abbrev pub IsRecordOf : ServicesTree → Record → Type 0
IsRecordOf tree item = IsMethodOf tree item.method × All (λ asked. IsMethodOf tree asked.callee) item.calls

-- ---- from names to numbers

abbrev pub method_named : ServicesTree → MethodName → Option MethodId
method_named tree name = option_map (λ m. record { 0 = m }) (number_in (declarations_of tree) name.service name.method)

abbrev pub asked_named : ServicesTree → NamedAsked → Option Asked
asked_named tree named =
    option_map (λ callee. record { entry = named.entry; callee = callee; args = named.args; reply = named.reply }) (method_named tree named.callee)

-- the record by the numbers of its methods, none exactly where the services lack one
abbrev pub record_named : ServicesTree → NamedRecord → Option Record
record_named tree named =
    option_and_then (λ method. option_map (λ calls. record { method = method; args = named.args; calls = calls; reply = named.reply; steps = named.steps })
    (each_of (asked_named tree) named.calls)) (method_named tree named.method)
