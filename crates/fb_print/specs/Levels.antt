-- Where an operand stands in parentheses.
use Rattle.std.specs.Prelude.{List, [], ◌∷◌, ◌++◌, if◌then◌else◌}
use Rattle.fb_syntax.specs.declared.sign.Sign.TheVariants.{OpenParen, CloseParen}
use Rattle.fb_syntax.specs.declared.levels.Level.{Level}
use Rattle.fb_syntax.specs.Levels.{in_parentheses}
use Rattle.fb_syntax.specs.Trees.{Expression}
use Rattle.fb_print.specs.Items.{Item, sign}

abbrev pub parenthesized : List Item → List Item
parenthesized items = sign OpenParen ∷ items ++ sign CloseParen ∷ []

-- an expression that is spelled by these items, where the grammar reads this level
abbrev pub placed : Level → Expression → List Item → List Item
placed wanted e items = if in_parentheses wanted e then parenthesized items else items
