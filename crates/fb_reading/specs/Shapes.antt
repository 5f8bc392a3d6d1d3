-- Which JSON is that of which thing.
use Rattle.std.specs.Prelude.{◌≡◌, ◌⊎◌, ℕ, ◌≤◌, ◌<◌, Bool, true, false, All, IfSome, None, List, length}
use Rattle.serde_json.specs.Data.{Data, null, boolean, string, Items}
use Rattle.fb_base.specs.Weight.{light_list}
use Rattle.fb_index.specs.Entry.{Occurrence}
use Rattle.fb_index.specs.Fault.{IsAtCall}
use Rattle.fb_index.specs.Index.{IsIndex}
use Rattle.fb_index.specs.Plan.{IsPlan}
use Rattle.fb_index.specs.declared.fault.Fault.{Fault}
use Rattle.fb_tree.specs.declared.outcome.Outcome.{Outcome}
use Rattle.fb_report.specs.Ranges.{IsLong, IsCounted, IsProperOutcome}
use Rattle.fb_report.specs.Trees.{number_tree, trees_of, optional_tree, index_tree}

-- ---- of some thing

-- it is the JSON of some thing of which this holds
abbrev pub IsTree : {A : Type 0} → (A → Type 0) → (A → Data) → Data → Type 0
IsTree {A} Fits tree d = (x : A) × Fits x × (d ≡ tree x)

-- and these are the JSON of some things, one after another
abbrev pub AreTrees : {A : Type 0} → (A → Type 0) → (A → Data) → Items → Type 0
AreTrees {A} Fits tree ds = (xs : List A) × All Fits xs × (ds ≡ trees_of tree xs)

-- they are the JSON of no such things, or of some that weigh too much
abbrev pub IsNoList : {A : Type 0} → (A → ℕ) → (A → Type 0) → (A → Data) → Items → Type 0
IsNoList {A} weight Fits tree ds = (¬ (AreTrees Fits tree ds)) ⊎ ((xs : List A) × All Fits xs × (ds ≡ trees_of tree xs) × (light_list weight xs ≡ None))

-- ---- what the parts of a line have to keep

abbrev pub Anything : {A : Type 0} → A → Type 0
Anything x = Unit {0}

-- it is from this one to that one
abbrev pub IsFrom : ℕ → ℕ → ℕ → Type 0
IsFrom low high n = (low ≤ n) × (n ≤ high)

-- the greatest number of 64 bits, and of 32
abbrev pub greatest : ℕ
greatest = 18446744073709551615

abbrev pub greatest_of_call : ℕ
greatest_of_call = 4294967295

-- an outcome with numbers from 1 on
abbrev pub IsOutcome : Outcome → Type 0
IsOutcome outcome = IsCounted outcome × IsProperOutcome outcome

-- an index of a call
abbrev pub IsCallIndex : List Occurrence → Type 0
IsCallIndex index = IsIndex index × (0 < length index)

-- a plan whose faults are all at calls
abbrev pub IsCallPlan : List Fault → Type 0
IsCallPlan plan = IsPlan plan × All IsAtCall plan

-- ---- their JSON

abbrev pub IsInteger : ℕ → ℕ → Data → Type 0
IsInteger low high = IsTree (IsFrom low high) number_tree

abbrev pub IsWord : List ℕ → Data → Type 0
IsWord word d = d ≡ string word

abbrev pub IsFlag : Data → Type 0
IsFlag = IsTree Anything boolean

-- an integer or null
abbrev pub IsParent : Data → Type 0
IsParent = IsTree (λ parent. IfSome parent IsLong) (optional_tree number_tree)

abbrev pub is_null : Data → Bool
is_null null = true
is_null other = false

-- beside null stands null, and beside a fault's code or reply its index
abbrev pub IsIndexBeside : Bool → Data → Type 0
IsIndexBeside false d = d ≡ null
IsIndexBeside true d = IsTree IsCallIndex index_tree d
