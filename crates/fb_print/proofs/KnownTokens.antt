-- The tokens that a printed tree has: what the grammar reads in them, and that bytes spell them.
use Rattle.std.proofs.Common.{◌≡◌, ℕ, ℤ, true, false, Option, Some, None, List, [], ◌∷◌, if◌then◌else◌, refl, ap, subst}
use Rattle.fb_base.specs.declared.kind.Kind.{Kind}
use Rattle.fb_base.specs.declared.kind.Kind.TheVariants as kind
use Rattle.fb_base.specs.declared.operator.Op2.{Op2}
use Rattle.fb_base.specs.declared.operator.Op2.TheVariants as op
use Rattle.fb_base.specs.Name.{IsName}
use Rattle.fb_syntax.specs.declared.sign.Sign.{Sign}
use Rattle.fb_syntax.specs.declared.sign.Sign.TheVariants as sign
use Rattle.fb_syntax.specs.declared.reserved.Reserved.{Reserved}
use Rattle.fb_syntax.specs.declared.reserved.Reserved.TheVariants as word
use Rattle.fb_syntax.specs.declared.levels.Series.{Series}
use Rattle.fb_syntax.specs.declared.levels.Series.TheVariants as series
use Rattle.fb_syntax.specs.declared.token.What.{What}
use Rattle.fb_syntax.specs.declared.token.What.TheVariants as what
use Rattle.fb_syntax.specs.Keywords.{reserved_text, reserved_of, is_reserved}
use Rattle.fb_syntax.specs.Signs.{sign_text}
use Rattle.fb_syntax.specs.TokenKinds.{name_of, by_sign, comparison_sign, sum_sign, product_sign, series_operator, base_of, base_of_word, base_word, int_of, content_of}
use Rattle.fb_syntax.specs.declared.levels.Level.{Level}
use Rattle.fb_syntax.specs.declared.levels.Level.TheVariants as level
use Rattle.fb_print.specs.Items.{keyword}
use Rattle.fb_syntax.specs.Levels.{operator_level}
use Rattle.fb_print.specs.Expressions.{operator_sign, kind_items}
use Rattle.fb_print.proofs.Respelling.{CanBeSpelled}

pub some_same : {A : Type 0} (x y : A) → Some x ≡ Some y → x ≡ y
some_same x y h = cc

pub IsName-reserved_text : (w : Reserved) → IsName (reserved_text w)
IsName-reserved_text word.Service = refl
IsName-reserved_text word.Method = refl
IsName-reserved_text word.Test = refl
IsName-reserved_text word.Let = refl
IsName-reserved_text word.If = refl
IsName-reserved_text word.Else = refl
IsName-reserved_text word.Repeat = refl
IsName-reserved_text word.For = refl
IsName-reserved_text word.In = refl
IsName-reserved_text word.Break = refl
IsName-reserved_text word.Return = refl
IsName-reserved_text word.Fail = refl
IsName-reserved_text word.Call = refl
IsName-reserved_text word.On = refl
IsName-reserved_text word.Any = refl
IsName-reserved_text word.Assert = refl
IsName-reserved_text word.Injected = refl
IsName-reserved_text word.InjectedOn = refl
IsName-reserved_text word.And = refl
IsName-reserved_text word.Or = refl
IsName-reserved_text word.Not = refl
IsName-reserved_text word.True = refl
IsName-reserved_text word.False = refl
IsName-reserved_text word.Int = refl
IsName-reserved_text word.Bool = refl
IsName-reserved_text word.Text = refl
IsName-reserved_text word.List = refl
IsName-reserved_text word.Len = refl

pub word_known : (w : Reserved) → CanBeSpelled (what.Word (reserved_text w))
word_known w = (reserved_text w, (IsName-reserved_text w, refl))

pub sign_known : (s : Sign) → CanBeSpelled (what.Sign s)
sign_known s = (sign_text s, refl)

-- ---- names, numbers, texts

pub name_known : (old : What) (x : List ℕ) → name_of old ≡ Some x → CanBeSpelled old → CanBeSpelled (what.Word x)
name_known (what.Word found) x named known =
    elim (is_reserved found) as (λ b. (if b then None else Some found) ≡ Some x → CanBeSpelled (what.Word x)) [
      | true ↦ λ no_way. absurd cc
      | false ↦ λ same. subst (λ (y : List ℕ). CanBeSpelled (what.Word y)) (some_same found x same) known
    ] named
name_known (what.Int n) x named known = absurd (let no_way = named in cc)
name_known (what.Text t) x named known = absurd (let no_way = named in cc)
name_known (what.Sign s) x named known = absurd (let no_way = named in cc)

pub name_again : (old : What) (x : List ℕ) → name_of old ≡ Some x → name_of (what.Word x) ≡ Some x
name_again (what.Word found) x named =
    elim (is_reserved found) as (λ b. is_reserved found ≡ b → (if b then None else Some found) ≡ Some x → name_of (what.Word x) ≡ Some x) [
      | true ↦ λ is no_way. absurd cc
      | false ↦ λ is same. subst (λ (y : List ℕ). name_of (what.Word y) ≡ Some y) (some_same found x same) (ap (λ b. if b then None else Some found) is)
    ] refl named
name_again (what.Int n) x named = absurd (let no_way = named in cc)
name_again (what.Text t) x named = absurd (let no_way = named in cc)
name_again (what.Sign s) x named = absurd (let no_way = named in cc)

pub int_known : (old : What) (n : ℤ) → int_of old ≡ Some n → CanBeSpelled old → CanBeSpelled (what.Int n)
int_known (what.Int found) n is known = subst (λ (m : ℤ). CanBeSpelled (what.Int m)) (some_same found n is) known
int_known (what.Word found) n is known = absurd (let no_way = is in cc)
int_known (what.Text t) n is known = absurd (let no_way = is in cc)
int_known (what.Sign s) n is known = absurd (let no_way = is in cc)

pub text_known : (old : What) (text : List ℕ) → content_of old ≡ Some text → CanBeSpelled old → CanBeSpelled (what.Text text)
text_known (what.Text found) text is known = subst (λ (t : List ℕ). CanBeSpelled (what.Text t)) (some_same found text is) known
text_known (what.Word found) text is known = absurd (let no_way = is in cc)
text_known (what.Int n) text is known = absurd (let no_way = is in cc)
text_known (what.Sign s) text is known = absurd (let no_way = is in cc)

-- ---- operators

-- the sign that is printed stands for the operator, by such a reading of signs
abbrev pub IsPrinted : (Sign → Option Op2) → Op2 → Type 0
IsPrinted operator o = operator (operator_sign o) ≡ Some o

pub comparison_printed : (s : Sign) (o : Op2) → comparison_sign s ≡ Some o → IsPrinted comparison_sign o
comparison_printed sign.Equal o is = subst (IsPrinted comparison_sign) (some_same op.Eq o is) refl
comparison_printed sign.NotEqual o is = subst (IsPrinted comparison_sign) (some_same op.Ne o is) refl
comparison_printed sign.Less o is = subst (IsPrinted comparison_sign) (some_same op.Lt o is) refl
comparison_printed sign.LessEqual o is = subst (IsPrinted comparison_sign) (some_same op.Le o is) refl
comparison_printed sign.Greater o is = subst (IsPrinted comparison_sign) (some_same op.Gt o is) refl
comparison_printed sign.GreaterEqual o is = subst (IsPrinted comparison_sign) (some_same op.Ge o is) refl
comparison_printed _ o is = absurd (let no_way = is in cc)

-- the level of a chain of these operators
abbrev pub series_level : Series → Level
series_level series.Sum = level.Sum
series_level series.Product = level.Product

abbrev pub series_sign : Series → Sign → Option Op2
series_sign series.Sum = sum_sign
series_sign series.Product = product_sign

abbrev IsOf : Series → Op2 → Type 0
IsOf chain o = (operator_level o ≡ series_level chain) × IsPrinted (series_sign chain) o

sum_printed : (s : Sign) (o : Op2) → sum_sign s ≡ Some o → IsOf series.Sum o
sum_printed sign.Plus o is = subst (IsOf series.Sum) (some_same op.Add o is) (refl, refl)
sum_printed sign.Minus o is = subst (IsOf series.Sum) (some_same op.Sub o is) (refl, refl)
sum_printed sign.PlusPlus o is = subst (IsOf series.Sum) (some_same op.Join o is) (refl, refl)
sum_printed _ o is = absurd (let no_way = is in cc)

product_printed : (s : Sign) (o : Op2) → product_sign s ≡ Some o → IsOf series.Product o
product_printed sign.Star o is = subst (IsOf series.Product) (some_same op.Mul o is) (refl, refl)
product_printed sign.Slash o is = subst (IsOf series.Product) (some_same op.Div o is) (refl, refl)
product_printed sign.Percent o is = subst (IsOf series.Product) (some_same op.Rem o is) (refl, refl)
product_printed _ o is = absurd (let no_way = is in cc)

by_sign_is : (operator : Sign → Option Op2) (old : What) (o : Op2) → by_sign operator old ≡ Some o → (s : Sign) × (operator s ≡ Some o)
by_sign_is operator (what.Sign s) o is = (s, is)
by_sign_is operator (what.Word found) o is = absurd (let no_way = is in cc)
by_sign_is operator (what.Int n) o is = absurd (let no_way = is in cc)
by_sign_is operator (what.Text t) o is = absurd (let no_way = is in cc)

pub comparison_again : (old : What) (o : Op2) → by_sign comparison_sign old ≡ Some o → by_sign comparison_sign (what.Sign (operator_sign o)) ≡ Some o
comparison_again old o is = let s = by_sign_is comparison_sign old o is in comparison_printed s.0 o s.1

pub operator_again : (chain : Series) (old : What) (o : Op2) → series_operator chain old ≡ Some o
    → (operator_level o ≡ series_level chain) × (series_operator chain (what.Sign (operator_sign o)) ≡ Some o)
operator_again series.Sum old o is = let s = by_sign_is sum_sign old o is in sum_printed s.0 o s.1
operator_again series.Product old o is = let s = by_sign_is product_sign old o is in product_printed s.0 o s.1

-- ---- the kinds of a list's items

-- it is printed as one word, which stands for it
abbrev pub IsBasePrinted : Kind → Type 0
IsBasePrinted base = (w : Reserved) × (kind_items base ≡ keyword w ∷ []) × (base_of (what.Word (reserved_text w)) ≡ Some base)

word_printed : (w : Reserved) (base : Kind) → base_word w ≡ Some base → IsBasePrinted base
unfolding reserved_of
word_printed word.Int base is = subst IsBasePrinted (some_same kind.Int base is) (word.Int, refl, refl)
word_printed word.Bool base is = subst IsBasePrinted (some_same kind.Bool base is) (word.Bool, refl, refl)
word_printed word.Text base is = subst IsBasePrinted (some_same kind.Text base is) (word.Text, refl, refl)
word_printed _ base is = absurd (let no_way = is in cc)

found_printed : (found : Option Reserved) (base : Kind) → base_of_word found ≡ Some base → IsBasePrinted base
found_printed None base is = absurd (let no_way = is in cc)
found_printed (Some w) base is = word_printed w base is

pub base_printed : (old : What) (base : Kind) → base_of old ≡ Some base → IsBasePrinted base
base_printed (what.Word found) base is = found_printed (reserved_of found) base is
base_printed (what.Int n) base is = absurd (let no_way = is in cc)
base_printed (what.Text t) base is = absurd (let no_way = is in cc)
base_printed (what.Sign s) base is = absurd (let no_way = is in cc)
