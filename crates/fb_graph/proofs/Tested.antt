-- The tests of chains and walks find those that are there.
use Rattle.std.proofs.Common.{ℕ, zero, suc, ◌≤◌, ◌≡◌, Bool, true, List, [], ◌∷◌, length, filter, refl, ap, arith, ◌↔◌, eqb, eqb-true, eq-eqb}
use Rattle.fb_graph.specs.Graph.{Graph, Calls, callees}
use Rattle.fb_graph.specs.Chain.{HasChain, has_chain}
use Rattle.fb_graph.specs.Walk.{IsWalk, IsNotAfter}
use Rattle.fb_graph.specs.FirstCycle.{reaches, least, first_way}
use Rattle.fb_graph.proofs.Members.{any-Contains, any-from, least-passing}
use Rattle.fb_graph.proofs.Walks.{nothing-before, not-after}

has_chain-HasChain : (graph : Graph) (m k : ℕ) → has_chain graph m k ≡ true → HasChain graph m k
unfolding has_chain HasChain
has_chain-HasChain graph m zero is = tt
has_chain-HasChain graph m (suc k) is =
    let (n, calls, chain) = any-Contains (λ n. has_chain graph n k) (callees graph m) is in
    (n, calls, has_chain-HasChain graph n k chain)

HasChain-has_chain : (graph : Graph) (m k : ℕ) → HasChain graph m k → has_chain graph m k ≡ true
unfolding has_chain HasChain
HasChain-has_chain graph m zero chain = refl
HasChain-has_chain graph m (suc k) (n, calls, chain) =
    any-from (λ o. has_chain graph o k) (callees graph m) n calls (HasChain-has_chain graph n k chain)

pub chains-tested : (graph : Graph) (m k : ℕ) → (has_chain graph m k ≡ true) ↔ HasChain graph m k
chains-tested graph m k = (has_chain-HasChain graph m k, HasChain-has_chain graph m k)

pub reaches-from : (graph : Graph) (m : ℕ) (through : List ℕ) (end : ℕ) → IsWalk graph m through end →
    reaches graph (length through) m end ≡ true
unfolding reaches
reaches-from graph m [] end walk = any-from (λ n. eqb n end) (callees graph m) end walk (eq-eqb end end refl)
reaches-from graph m (n ∷ through) end (calls, walk) =
    any-from (λ o. reaches graph (length through) o end) (callees graph m) n calls (reaches-from graph n through end walk)

-- a walk of this length that is first of them in dictionary order
pub record IsFirstOfLength (graph : Graph) (k m end : ℕ) (through : List ℕ) : Type 0 where
  pub len : length through ≡ k
  pub walk : IsWalk graph m through end
  pub first : (other : List ℕ) → IsWalk graph m other end → length other ≡ k → IsNotAfter through other

-- another walk goes by a callee that isn't less
on : (graph : Graph) (k m end n : ℕ) (rest : List ℕ) → IsFirstOfLength graph k n end rest →
    ((o : ℕ) → Calls graph m o → reaches graph k o end ≡ true → n ≤ o) →
    (other : List ℕ) → IsWalk graph m other end → length other ≡ suc k → IsNotAfter (n ∷ rest) other
on graph k m end n rest first lowest [] walk len = absurd (omega arith)
on graph k m end n rest first lowest (o ∷ through) (calls, walk) len =
    let len' : length through ≡ k = omega arith in
    not-after n o rest through (lowest o calls (rw len' at (reaches-from graph o through end walk)))
    (λ same. first.first through (rw same walk) len')

pub first_way-is : (graph : Graph) (k m end : ℕ) → reaches graph k m end ≡ true → IsFirstOfLength graph k m end (first_way graph k m end)
unfolding reaches first_way
first_way-is graph zero m end is =
    let (n, calls, same) = any-Contains (λ n. eqb n end) (callees graph m) is in
    let at : n ≡ end = eqb-true n end same in
    record { len = refl; walk = rw (← at) calls; first = λ other walk len. nothing-before other }
first_way-is graph (suc k) m end is =
    let p : ℕ → Bool = λ n. reaches graph k n end in
    let n = least (filter p (callees graph m)) in
    let (calls, goes_on, lowest) = least-passing p (callees graph m) is in
    let rest = first_way-is graph k n end goes_on in
    record {
      len = ap suc rest.len;
      walk = (calls, rest.walk);
      first = λ other walk len. on graph k m end n (first_way graph k n end) rest lowest other walk len;
    }
