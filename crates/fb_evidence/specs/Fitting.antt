-- What a true record has without its body.
use Rattle.std.specs.Prelude.{◌≡◌, Bool, true, false, ◌&&◌, List, [], ◌∷◌, Some}
use Rattle.fb_base.specs.declared.kind.Kind.{Kind}
use Rattle.fb_base.specs.declared.value.Value.{Value}
use Rattle.fb_base.specs.Values.{has_kind}
use Rattle.fb_syntax.specs.Trees.{MethodTree, ServicesTree}
use Rattle.fb_check.specs.Declarations.{kinds_of_parameters}
use Rattle.fb_check.specs.Programs.{method_at}
use Rattle.fb_tree.specs.declared.recorded.Record.{Record}
use Rattle.fb_meaning.specs.Each.{HoldsOfEach}
use Rattle.fb_meaning.specs.Records.{HaveKinds, IsCallOf}

-- whether each value has its kind
unfoldable pub have_kinds : List Value → List Kind → Bool
have_kinds [] [] = true
have_kinds [] (kind ∷ kinds) = false
have_kinds (v ∷ vs) [] = false
have_kinds (v ∷ vs) (kind ∷ kinds) = has_kind v kind && have_kinds vs kinds

-- its method is one of the services and takes its arguments, and each of its calls is one of the method's sites
pub record IsFitting (services : ServicesTree) (item : Record) : Type 0 where
  pub method : MethodTree
  pub there : method_at services item.method.0 ≡ Some method
  pub args_fit : HaveKinds item.args (kinds_of_parameters method.params)
  pub calls_fit : HoldsOfEach (IsCallOf services item.method.0) item.calls
