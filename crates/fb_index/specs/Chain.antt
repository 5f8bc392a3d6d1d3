-- A shared list, seen as its items.
use Rattle.std.specs.Prelude.{◌≡◌, ◌+◌, Option, Some, None, List, [], ◌∷◌, ◌++◌, length}
use Rattle.std.specs.declared.alloc.Global.{Global}
use Rattle.std.specs.declared.rc.Rc.{Rc}
use Rattle.fb_index.specs.declared.chain.Node.{Node}

-- the items up to this last one, the first item first
abbrev pub items_of : {T : Type 0} → Option (Rc (Node T) Global) → List T
items_of None = []
items_of (Some last) = last.value.before ++ last.value.item ∷ []

-- the last item knows how many items there are
abbrev pub IsCounted : {T : Type 0} → Option (Rc (Node T) Global) → Type 0
IsCounted None = Unit {0}
IsCounted (Some last) = last.value.len ≡ length last.value.before + 1
