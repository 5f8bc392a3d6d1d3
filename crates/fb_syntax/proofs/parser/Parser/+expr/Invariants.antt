use Rattle.std.proofs.Common.{◌≡◌, ℕ, ◌+◌, ◌*◌, ◌≤◌, [], length}
use Rattle.fb_syntax.specs.declared.levels.Junction.{Junction}
use Rattle.fb_syntax.specs.declared.levels.Junction.TheVariants as junction
use Rattle.fb_syntax.specs.declared.levels.Series.{Series}
use Rattle.fb_syntax.specs.declared.levels.Series.TheVariants as series
use Rattle.fb_syntax.specs.TokenKinds.{is_word, junction_word, series_operator}
use Rattle.fb_syntax.specs.Reading.{◌>>=◌, give, step, with_front, repeated, further}
use Rattle.fb_syntax.specs.Views.{view_items, view_rest}
use Rattle.fb_syntax.specs.ExpressionReading.{links, all_others, junction_operand, series_operand, deeper_at, levels_at}
use Rattle.fb_syntax.proofs.parser.Parser.+expr.Given as goal

-- The functions of one depth, from the atoms up.
abbrev by_series : Series → ℕ
by_series series.Product = 5
by_series series.Sum = 8

abbrev by_junction : Junction → ℕ
by_junction junction.And = 13
by_junction junction.Or = 16

abbrev pub decreases-parenthesized : goal.decreases-parenthesized
decreases-parenthesized l = 32 * l.depth

abbrev pub decreases-list_literal : goal.decreases-list_literal
decreases-list_literal l = 32 * l.depth

abbrev pub decreases-word_atom : goal.decreases-word_atom
decreases-word_atom l = 32 * l.depth + 1

abbrev pub decreases-atom : goal.decreases-atom
decreases-atom l = 32 * l.depth + 2

abbrev pub decreases-post : goal.decreases-post
decreases-post l = 32 * l.depth + 3

abbrev pub decreases-unary : goal.decreases-unary
decreases-unary l = 32 * l.depth + 4

abbrev pub decreases-series_operand : goal.decreases-series_operand
decreases-series_operand l = 32 * l.depth + by_series l.series

abbrev pub decreases-links : goal.decreases-links
decreases-links l = 32 * l.depth + by_series l.series + 1

abbrev pub decreases-chained : goal.decreases-chained
decreases-chained l = 32 * l.depth + by_series l.series + 2

abbrev pub decreases-comparison : goal.decreases-comparison
decreases-comparison l = 32 * l.depth + 11

abbrev pub decreases-neg : goal.decreases-neg
decreases-neg l = 32 * l.depth + 12

abbrev pub decreases-junction_operand : goal.decreases-junction_operand
decreases-junction_operand l = 32 * l.depth + by_junction l.junction

abbrev pub decreases-others : goal.decreases-others
decreases-others l = 32 * l.depth + by_junction l.junction + 1

abbrev pub decreases-joined : goal.decreases-joined
decreases-joined l = 32 * l.depth + by_junction l.junction + 2

abbrev pub decreases-expr : goal.decreases-expr
decreases-expr l = 32 * l.depth + 19

abbrev pub decreases-further : goal.decreases-further
decreases-further l = 32 * l.depth + 20

abbrev pub decreases-items : goal.decreases-items
decreases-items l = 32 * l.depth + 21

-- what is held and what is still to be read are all that is read
abbrev pub invariant-further-items : goal.invariant-further-items
invariant-further-items l =
    with_front (view_items l.items) (further l.room (levels_at l.depth).beyond (levels_at l.depth).expr) l.self
    ≡ with_front (view_items l.fn.items) (further l.fn.room (levels_at l.depth).beyond (levels_at l.depth).expr) l.fn.self

abbrev pub decreases-further-items : goal.decreases-further-items
decreases-further-items l = l.room

abbrev pub invariant-links-operands : goal.invariant-links-operands
invariant-links-operands l =
    with_front (view_rest l.links) (links l.room (series_operator l.series) (series_operand (deeper_at l.depth) l.series)) l.self
    ≡ links l.fn.room (series_operator l.series) (series_operand (deeper_at l.depth) l.series) l.fn.self

abbrev pub decreases-links-operands : goal.decreases-links-operands
decreases-links-operands l = l.room

abbrev pub invariant-others-operands : goal.invariant-others-operands
invariant-others-operands l = (tokens : ℕ) × (length l.self.left ≤ tokens)
    × (with_front (view_items l.operands) (repeated (give []) tokens (is_word (junction_word l.junction)) (step >>= λ _. junction_operand (deeper_at l.depth) l.junction)) l.self
    ≡ with_front (view_items l.fn.operands) (all_others (is_word (junction_word l.junction)) (junction_operand (deeper_at l.depth) l.junction)) l.fn.self)

abbrev pub decreases-others-operands : goal.decreases-others-operands
decreases-others-operands l = length l.self.left
