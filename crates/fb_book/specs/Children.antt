-- Extensions that have a line.
use Rattle.std.specs.Prelude.{ℕ, ◌+◌, ◌&&◌, ◌==◌, Bool, Option, Some, None, List, [], ◌∷◌, ◌++◌, if◌then◌else◌}
use Rattle.std.specs.List.{list_any}
use Rattle.fb_base.specs.declared.reply.Reply.{Reply}
use Rattle.fb_book.specs.declared.child.Child.{Child}

abbrev pub same_child : Child → Child → Bool
same_child a b = a.parent == b.parent && a.call == b.call && a.choice == b.choice

abbrev pub is_told : List Child → Child → Bool
is_told told child = list_any (same_child child) told

-- a child goes last, unless it is there
abbrev pub with_child : List Child → Child → List Child
with_child told child = if is_told told child then told else told ++ child ∷ []

-- the first child, by these choices for a call and those behind them, that isn't there
abbrev pub first_missing : List Child → ℕ → ℕ → ℕ → List Reply → Option Child
first_missing told parent call choice [] = None
first_missing told parent call choice (given ∷ choices) =
    if is_told told (record { parent = parent; call = call; choice = choice }) then first_missing told parent call (choice + 1) choices
    else Some (record { parent = parent; call = call; choice = choice })
