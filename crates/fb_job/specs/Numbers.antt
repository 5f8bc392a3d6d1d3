-- The numbers that words give.
use Rattle.std.specs.Prelude.{ℕ, Bool, ◌&&◌, nat_le, nat_lt, List, Option, Some, None, Result, Ok, Err, length, if◌then◌else◌, codes}
use Rattle.std.specs.List.{list_all}
use Rattle.std.specs.Char.{is_digit}
use Rattle.std.specs.Str.Parse.{digits_value}
use Rattle.clap.specs.Words.{Row, first_of}

abbrev pub default_fuel : ℕ
default_fuel = 100000

abbrev pub most_fuel : ℕ
most_fuel = 1000000

abbrev pub default_budget : ℕ
default_budget = 10000

abbrev pub most_budget : ℕ
most_budget = 1000000

abbrev pub most_number : ℕ
most_number = 18446744073709551615

abbrev pub most_size : ℕ
most_size = 12

-- one decimal digit or more, and nothing else
abbrev pub is_numeral : List ℕ → Bool
is_numeral text = nat_lt 0 (length text) && list_all (λ byte. is_digit byte 10) text

-- the number, where it is within the limits
abbrev pub within_limits : ℕ → ℕ → ℕ → Option ℕ
within_limits least most number = if nat_le least number && nat_le number most then Some number else None

-- the number within the limits, where one was read
abbrev pub number_read : {E : Type 0} → ℕ → ℕ → Result ℕ E → Option ℕ
number_read least most (Ok number) = within_limits least most number
number_read least most (Err error) = None

-- the number that a text says; none where it is no numeral, or its number isn't within the limits
unfoldable pub number_of : ℕ → ℕ → List ℕ → Option ℕ
number_of least most text = if is_numeral text then within_limits least most (digits_value 10 text) else None

-- the units of fuel by their option, which may be left out
abbrev pub fuel_by : Option (List ℕ) → Option ℕ
fuel_by None = Some default_fuel
fuel_by (Some text) = number_of 1 most_fuel text

abbrev pub fuel_given : List Row → Option ℕ
fuel_given rows = fuel_by (first_of (codes "fuel") rows)

-- so the most plans that are run
abbrev pub budget_by : Option (List ℕ) → Option ℕ
budget_by None = Some default_budget
budget_by (Some text) = number_of 0 most_budget text

abbrev pub budget_given : List Row → Option ℕ
budget_given rows = budget_by (first_of (codes "budget") rows)

-- a number that has to be given
abbrev pub required_number : ℕ → ℕ → Option (List ℕ) → Option ℕ
required_number least most None = None
required_number least most (Some text) = number_of least most text

-- the number and the size of a trial
abbrev pub number_given : List Row → Option ℕ
number_given rows = required_number 0 most_number (first_of (codes "NUMBER") rows)

abbrev pub size_given : List Row → Option ℕ
size_given rows = required_number 1 most_size (first_of (codes "SIZE") rows)
