use Rattle.std.proofs.Common.{◌≡◌, ◌↔◌, IsTrue, false, ℕ, ◌+◌, ◌<◌, ◌≤◌, List, length, get_or, take, subst, arith}
use Rattle.std.specs.List.{Contains, All}
use Rattle.std.proofs.lemmas.List.{take_all}
use Rattle.std.proofs.lemmas.List.Elements.{All-more, Contains-get_or}
use Rattle.std.proofs.lemmas.Bool.{false≢true}
use Rattle.cfa_calls.specs.Reaching.{row_of, IsWithin, Leads, Falls, IsLevelled}
use Rattle.cfa_calls.specs.Reaching.Leads.{stay, step}

abbrev AtMost : List ℕ → ℕ → ℕ → Type 0
AtMost levels level next = get_or levels next 0 ≤ level

pub at_most_more : (levels row : List ℕ) (level i : ℕ) → All (AtMost levels level) (take i row) → i < length row → get_or levels (get_or row i 0) 0 ≤ level
    → All (AtMost levels level) (take (i + 1) row)
at_most_more levels row level i all h below = All-more (AtMost levels level) row i 0 h all below

pub at_most_all : (levels row : List ℕ) (level i : ℕ) → All (AtMost levels level) (take i row) → length row ≤ i → All (AtMost levels level) row
at_most_all levels row level i all h = subst (All (AtMost levels level)) (take_all i row h) all

pub row_within : (rows : List (List ℕ)) (row : List ℕ) (node n : ℕ) → IsWithin rows → row ≡ row_of rows node → n ≡ length rows → All (λ next. next < n) row
row_within rows row node n w is same = λ k d h.
    let inside = w.within node (get_or row k d) (subst (λ xs. Contains xs (get_or row k d)) is (Contains-get_or row k d h)) in
    omega arith

-- along a chain of edges the level never rises
pub leads_falls : (rows : List (List ℕ)) (levels : List ℕ) → Falls rows levels → (from to : ℕ) → Leads rows from to → get_or levels to 0 ≤ get_or levels from 0
leads_falls rows levels falls from to stay = omega arith
leads_falls rows levels falls from to (step node next edge rest) =
    let first = falls node next edge in let others = leads_falls rows levels falls next to rest in omega arith

-- no chain of edges leads to a higher level
pub not_upward : (rows : List (List ℕ)) (levels : List ℕ) → IsLevelled rows levels → (from to : ℕ) → get_or levels to 0 < get_or levels from 0
    → IsTrue false ↔ Leads rows to from
not_upward rows levels levelled from to h =
    (λ is. absurd (false≢true is), λ leads. let falls = leads_falls rows levels levelled.falls to from leads in absurd (omega arith))
