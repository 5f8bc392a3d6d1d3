-- Which items may follow one another, so that no token becomes longer by what follows it.
use Rattle.std.proofs.Common.{◌≡◌, Bool, true, false, List, [], ◌∷◌, ◌++◌, refl}
use Rattle.fb_syntax.specs.declared.sign.Sign.{Sign}
use Rattle.fb_syntax.specs.declared.sign.Sign.TheVariants.{Assign, Equal, GreaterEqual, Plus, PlusPlus, Minus, Greater}
use Rattle.fb_syntax.specs.declared.token.What.{What}
use Rattle.fb_syntax.specs.declared.token.What.TheVariants as what
use Rattle.fb_print.specs.Items.{Item, Token, Blank, Line}

pub data Class : Type 0 where
  -- a blank or the end of a line
  Layout : Class
  -- a sign that no other sign ends with, but `-`
  Free : Class
  Dash : Class
  -- `>`, which ends `->`
  Right : Class
  -- another sign that some sign ends with
  Joining : Class
  -- a word, a number or a text
  Solid : Class
  -- the end of what may be any of these; it is the class of no item
  End : Class

abbrev pub sign_class : Sign → Class
sign_class Minus = Dash
sign_class Greater = Right
sign_class Assign = Joining
sign_class Equal = Joining
sign_class GreaterEqual = Joining
sign_class Plus = Joining
sign_class PlusPlus = Joining
sign_class _ = Free

abbrev pub token_class : What → Class
token_class (what.Sign sign) = sign_class sign
token_class _ = Solid

abbrev pub class_of : Item → Class
class_of (Token token) = token_class token
class_of Blank = Layout
class_of (Line depth) = Layout

-- what stands before `>`: not `-`
abbrev before_right : Class → Bool
before_right Dash = false
before_right Joining = false
before_right End = false
before_right _ = true

abbrev before_joining : Class → Bool
before_joining Layout = true
before_joining _ = false

abbrev before_solid : Class → Bool
before_solid Layout = true
before_solid Free = true
before_solid Dash = true
before_solid _ = false

abbrev pub may_follow : Class → Class → Bool
may_follow before Layout = true
may_follow before Free = true
may_follow before Dash = true
may_follow before Right = before_right before
may_follow before Joining = before_joining before
may_follow before Solid = before_solid before
may_follow before End = false

-- all that may follow the second may follow the first
abbrev pub Allows : Class → Class → Type 0
Allows one other = (next : Class) → may_follow other next ≡ true → may_follow one next ≡ true

-- Behind an item of the first class each of these items may follow the one before it, and then all that may follow the
-- second class.
abbrev pub Runs : Class → List Item → Class → Type 0
Runs before [] last = Allows before last
Runs before (item ∷ items) last = (may_follow before (class_of item) ≡ true) × Runs (class_of item) items last

pub runs_wider : (before other last : Class) (items : List Item) → Allows before other → Runs other items last → Runs before items last
runs_wider before other last [] allows runs = λ next h. allows next (runs next h)
runs_wider before other last (item ∷ items) allows (first, runs) = (allows (class_of item) first, runs)

pub runs_both : (before mid last : Class) (front back : List Item) → Runs before front mid → Runs mid back last → Runs before (front ++ back) last
runs_both before mid last [] back allows runs = runs_wider before mid last back allows runs
runs_both before mid last (item ∷ front) back (first, more) runs = (first, runs_both (class_of item) mid last front back more runs)

-- ---- which classes allow more than others

pub allows_same : (c : Class) → Allows c c
allows_same c = λ next h. h

pub layout_allows : (c : Class) → Allows Layout c
layout_allows c Layout h = refl
layout_allows c Free h = refl
layout_allows c Dash h = refl
layout_allows c Right h = refl
layout_allows c Joining h = refl
layout_allows c Solid h = refl
layout_allows c End h = h

pub free_as_dash : Allows Free Dash
free_as_dash Layout h = refl
free_as_dash Free h = refl
free_as_dash Dash h = refl
free_as_dash Right h = refl
free_as_dash Joining h = h
free_as_dash Solid h = refl
free_as_dash End h = h

pub right_as_solid : Allows Right Solid
right_as_solid Layout h = refl
right_as_solid Free h = refl
right_as_solid Dash h = refl
right_as_solid Right h = refl
right_as_solid Joining h = h
right_as_solid Solid h = h
right_as_solid End h = h

-- what may follow any end may follow each class
pub ends : (c : Class) → Allows c End
ends c Layout h = refl
ends c Free h = refl
ends c Dash h = refl
ends c Right h = absurd (let no_way = h in cc)
ends c Joining h = absurd (let no_way = h in cc)
ends c Solid h = absurd (let no_way = h in cc)
ends c End h = h

pub runs_end : (before last : Class) (items : List Item) → Runs before items last → Runs before items End
runs_end before last [] allows = ends before
runs_end before last (item ∷ items) (first, runs) = (first, runs_end (class_of item) last items runs)
