-- The law of fuel.
use Rattle.std.specs.Prelude.{◌≡◌, ℕ, ◌+◌, ◌-◌, ◌≤◌, ◌<◌, ◌⊎◌}
use Rattle.fb_meaning.specs.Evaluations.{Evaluation, Spent, Missing, Done}

-- Evaluations of one thing with every fuel. Where it is done with some fuel, the units that are not left are its steps;
-- with any fuel it is done with the same thing exactly where the steps fit, and what is left is the difference. Where it
-- lacks an answer, it lacks it with any more, and with less it may be spent before.
pub record FollowsFuel {A : Type 0} (steps : A → ℕ) (evaluated : ℕ → Evaluation A ℕ) : Type 0 where
  pub taken : (fuel left : ℕ) (what : A) → evaluated fuel ≡ Done what left → left + steps what ≡ fuel
  pub enough : (fuel left other : ℕ) (what : A) → evaluated fuel ≡ Done what left → steps what ≤ other
      → evaluated other ≡ Done what (other - steps what)
  pub less : (fuel left other : ℕ) (what : A) → evaluated fuel ≡ Done what left → other < steps what → evaluated other ≡ Spent
  pub lacks : (fuel other : ℕ) → evaluated fuel ≡ Missing → fuel ≤ other → evaluated other ≡ Missing
  pub lacks_below : (fuel other : ℕ) → evaluated fuel ≡ Missing → other ≤ fuel → (evaluated other ≡ Missing) ⊎ (evaluated other ≡ Spent)
