-- Two evaluations that go alike until they part: where both are done, they end alike, or they are apart.
use Rattle.std.specs.Prelude.{◌≡◌, ⊤}
use Rattle.std.proofs.Common.{subst}
use Rattle.fb_meaning.specs.Evaluations.{Evaluation, Spent, Missing, Done, then_on, State}
use Rattle.fb_meaning.proofs.Steps.{Relation, Kept}

-- both end alike, or are apart
pub data Ends (Alike Apart : State → State → Type 0) {A : Type 0} (a b : A) (t u : State) : Type 0 where
  GoOn : a ≡ b → Alike t u → Ends Alike Apart a b t u
  Part : Apart t u → Ends Alike Apart a b t u

-- a guard holds of two states where it holds of later ones, and those that are apart stay so
pub record IsMeeting (R : Relation) (Guard Apart : State → State → Type 0) : Type 0 where
  pub before : (t u a b : State) → R t a → R u b → Guard a b → Guard t u
  pub later : (t u a b : State) → R t a → R u b → Apart t u → Apart a b

module _ (R : Relation) (Guard Alike Apart : State → State → Type 0) where
  abbrev pub Meet : {A : Type 0} → Evaluation A State → Evaluation A State → Type 0
  Meet (Done a t) (Done b u) = Guard t u → Ends Alike Apart a b t u
  Meet _ _ = ⊤

  pub meet_spent : {A : Type 0} (x : Evaluation A State) → Meet x Spent
  meet_spent Spent = tt
  meet_spent Missing = tt
  meet_spent (Done a t) = tt

  pub meet_missing : {A : Type 0} (x : Evaluation A State) → Meet x Missing
  meet_missing Spent = tt
  meet_missing Missing = tt
  meet_missing (Done a t) = tt

  module _ (meeting : IsMeeting R Guard Apart) where
    later_meets : {A B : Type 0} (z w : Evaluation B State) (a b : A) (t u : State) → Kept R t z → Kept R u w
        → (Guard t u → Ends Alike Apart a b t u) → (a ≡ b → Alike t u → Meet z w) → Meet z w
    later_meets Spent w a b t u h j m go = tt
    later_meets Missing w a b t u h j m go = tt
    later_meets (Done c t') Spent a b t u h j m go = tt
    later_meets (Done c t') Missing a b t u h j m go = tt
    later_meets (Done c t') (Done d u') a b t u h j m go = λ guard. from_ends guard (m (meeting.before t u t' u' h j guard))
      where
        from_ends : Guard t' u' → Ends Alike Apart a b t u → Ends Alike Apart c d t' u'
        from_ends guard (GoOn e alike) = go e alike guard
        from_ends guard (Part apart) = Part (meeting.later t u t' u' h j apart)

    pub then_meets : {A B : Type 0} (x y : Evaluation A State) (after along : A → State → Evaluation B State)
        → ((a : A) (t : State) → Kept R t (after a t)) → ((a : A) (t : State) → Kept R t (along a t)) → Meet x y
        → ((a : A) (t u : State) → Alike t u → Meet (after a t) (along a u)) → Meet (then_on x after) (then_on y along)
    then_meets Spent y after along h j m go = tt
    then_meets Missing y after along h j m go = tt
    then_meets (Done a t) Spent after along h j m go = meet_spent (after a t)
    then_meets (Done a t) Missing after along h j m go = meet_missing (after a t)
    then_meets (Done a t) (Done b u) after along h j m go =
        later_meets (after a t) (along b u) a b t u (h a t) (j b u) m
        (λ e alike. subst (λ c. Meet (after a t) (along c u)) e (go a t u alike))

-- the same where more states are alike
pub wider_meet : {A : Type 0} (R : Relation) (Guard Alike Wider Apart : State → State → Type 0) → ((t u : State) → Alike t u → Wider t u)
    → (x y : Evaluation A State) → Meet R Guard Alike Apart x y → Meet R Guard Wider Apart x y
wider_meet R Guard Alike Wider Apart wider Spent y m = tt
wider_meet R Guard Alike Wider Apart wider Missing y m = tt
wider_meet R Guard Alike Wider Apart wider (Done a t) Spent m = tt
wider_meet R Guard Alike Wider Apart wider (Done a t) Missing m = tt
wider_meet R Guard Alike Wider Apart wider (Done a t) (Done b u) m = λ guard. wider_ends (m guard)
  where
    wider_ends : Ends Alike Apart a b t u → Ends Wider Apart a b t u
    wider_ends (GoOn e alike) = GoOn e (wider t u alike)
    wider_ends (Part apart) = Part apart
