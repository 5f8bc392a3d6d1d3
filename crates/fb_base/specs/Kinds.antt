-- The kinds of the operators' operands and results.
use Rattle.std.specs.Prelude.{Option, Some, None}
use Rattle.fb_base.specs.declared.kind.Kind.{Kind}
use Rattle.fb_base.specs.declared.kind.Kind.TheVariants.{Int, Bool, Text, Ints, Bools, Texts}
use Rattle.fb_base.specs.declared.operator.Op1.{Op1}
use Rattle.fb_base.specs.declared.operator.Op1.TheVariants.{Neg, Not, Len}
use Rattle.fb_base.specs.declared.operator.Op2.{Op2}
use Rattle.fb_base.specs.declared.operator.Op2.TheVariants.{Add, Sub, Mul, Div, Rem, Eq, Ne, Lt, Le, Gt, Ge, Join, At}

abbrev pub kind_of_ints : Kind → Kind → Kind → Option Kind
kind_of_ints given Int Int = Some given
kind_of_ints given _ _ = None

abbrev pub kind_of_equality : Kind → Kind → Option Kind
kind_of_equality Int Int = Some Bool
kind_of_equality Bool Bool = Some Bool
kind_of_equality Text Text = Some Bool
kind_of_equality Ints Ints = Some Bool
kind_of_equality Bools Bools = Some Bool
kind_of_equality Texts Texts = Some Bool
kind_of_equality _ _ = None

abbrev pub kind_of_join : Kind → Kind → Option Kind
kind_of_join Text Text = Some Text
kind_of_join Ints Ints = Some Ints
kind_of_join Bools Bools = Some Bools
kind_of_join Texts Texts = Some Texts
kind_of_join _ _ = None

abbrev pub kind_of_place : Kind → Kind → Option Kind
kind_of_place Ints Int = Some Int
kind_of_place Bools Int = Some Bool
kind_of_place Texts Int = Some Text
kind_of_place _ _ = None

-- the kind that an operator gives for operands of two kinds, or none where they don't fit
unfoldable pub kind_of_binary : Op2 → Kind → Kind → Option Kind
kind_of_binary Add = kind_of_ints Int
kind_of_binary Sub = kind_of_ints Int
kind_of_binary Mul = kind_of_ints Int
kind_of_binary Div = kind_of_ints Int
kind_of_binary Rem = kind_of_ints Int
kind_of_binary Eq = kind_of_equality
kind_of_binary Ne = kind_of_equality
kind_of_binary Lt = kind_of_ints Bool
kind_of_binary Le = kind_of_ints Bool
kind_of_binary Gt = kind_of_ints Bool
kind_of_binary Ge = kind_of_ints Bool
kind_of_binary Join = kind_of_join
kind_of_binary At = kind_of_place

-- the same for one operand
unfoldable pub kind_of_unary : Op1 → Kind → Option Kind
kind_of_unary Neg Int = Some Int
kind_of_unary Not Bool = Some Bool
kind_of_unary Len Text = Some Int
kind_of_unary Len Ints = Some Int
kind_of_unary Len Bools = Some Int
kind_of_unary Len Texts = Some Int
kind_of_unary _ _ = None

-- the kind of a list of items of one kind
abbrev pub kind_of_list : Kind → Option Kind
kind_of_list Int = Some Ints
kind_of_list Bool = Some Bools
kind_of_list Text = Some Texts
kind_of_list _ = None

-- the kind of the items of a list of one kind
abbrev pub kind_of_item : Kind → Option Kind
kind_of_item Ints = Some Int
kind_of_item Bools = Some Bool
kind_of_item Texts = Some Text
kind_of_item _ = None
