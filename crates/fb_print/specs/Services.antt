-- The canonical text of services and of a test.
use Rattle.std.specs.Prelude.{ℕ, List, [], ◌∷◌, ◌++◌, map}
use Rattle.std.specs.List.{flat_map}
use Rattle.fb_base.specs.declared.kind.Kind.{Kind}
use Rattle.fb_syntax.specs.declared.reserved.Reserved.TheVariants as word
use Rattle.fb_syntax.specs.declared.sign.Sign.TheVariants as sign
use Rattle.fb_syntax.specs.Trees.{Parameter, MethodTree, ServiceTree, ServicesTree, TestTree}
use Rattle.fb_print.specs.Items.{Item, Blank, Line, keyword, name, sign, comma_separated, items_text}
use Rattle.fb_print.specs.Levels.{parenthesized}
use Rattle.fb_print.specs.Expressions.{kind_items}
use Rattle.fb_print.specs.Statements.{braced, block_items}

abbrev pub param_items : Parameter → List Item
param_items param = name param.name ∷ sign sign.Colon ∷ Blank ∷ kind_items param.kind

abbrev pub params_items : List Parameter → List Item
params_items params = parenthesized (comma_separated (map param_items params))

-- ` -> kind`
abbrev pub gives_items : Kind → List Item
gives_items kind = Blank ∷ sign sign.Arrow ∷ Blank ∷ kind_items kind

abbrev pub method_items : MethodTree → List Item
method_items method =
    keyword word.Method ∷ Blank ∷ name method.name ∷ params_items method.params ++ gives_items method.gives ++ block_items 1 method.body

-- with the end of its last line
abbrev pub service_items : ServiceTree → List Item
service_items service =
    keyword word.Service ∷ Blank ∷ name service.name ∷ braced 0 (flat_map (λ method. Line 1 ∷ method_items method) service.methods)
    ++ Line 0 ∷ []

-- one directly after another
abbrev pub services_items : ServicesTree → List Item
services_items tree = flat_map service_items tree.services

abbrev pub test_items : TestTree → List Item
test_items test = keyword word.Test ∷ Blank ∷ name test.name ∷ block_items 0 test.body ++ Line 0 ∷ []

-- the text of a file without services is empty
abbrev pub services_text : ServicesTree → List ℕ
services_text tree = items_text (services_items tree)

abbrev pub test_text : TestTree → List ℕ
test_text test = items_text (test_items test)
