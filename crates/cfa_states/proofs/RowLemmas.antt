-- The rows of a log, where one more instance is listed, and the visits that they come to.
use Rattle.std.proofs.Common.{◌≡◌, ℕ, Bool, true, false, List, [], ◌∷◌, ◌++◌, map, Option, Some, None, unwrap_or, refl, sym, ap, subst, ◌∙◌}
use Rattle.std.specs.List.{All}
use Rattle.std.proofs.lemmas.List.{map-append}
use Rattle.std.proofs.lemmas.List.Elements.{All-head, All-tail, All-weaker, All-push}
use Rattle.cfa_statuses.specs.declared.levels.Status.{Status}
use Rattle.cfa_resolve.specs.declared.instances.Instance.{Instance}
use Rattle.cfa_states.specs.declared.logs.Listing.{Listing}
use Rattle.cfa_states.specs.declared.logs.Row.{Row}
use Rattle.cfa_states.specs.declared.logs.RowOf.{RowOf}
use Rattle.cfa_states.specs.declared.logs.RowOf.TheVariants.{Placed, Named}
use Rattle.cfa_states.specs.declared.waits.Wait.{Wait}
use Rattle.cfa_states.specs.declared.walks.Blame.{Blame}
use Rattle.cfa_states.specs.declared.walks.Visit.{Visit}
use Rattle.cfa_states.specs.declared.walks.Walk.{Walk}
use Rattle.std.specs.Prelude.{IsSome}
use Rattle.cfa_states.specs.Logs.{name_at, listing_at, IsFound, IsPlaced, IsOf, visit_at, seen_at, Rows, with_visit, walk_of}
use Rattle.cfa_states.specs.Names.{name_of}
use Rattle.cfa_states.specs.Walks.{with_first, blame_by, visit_of}
use Rattle.cfa_states.proofs.PlaceLemmas.{seen_push}

-- ---- one more instance

-- what is found is found again, with its names
abbrev Stays : (xs ys : List Instance) → RowOf → Type 0
Stays xs ys of = (name_at ys of ≡ name_at xs of) × IsFound ys of

stays_by : (xs : List Instance) (x : Instance) (place : ℕ) (o : Option (List ℕ × List ℕ)) → seen_at xs place ≡ o → IsSome o → Stays xs (xs ++ x ∷ []) (Placed place)
stays_by xs x place None e found = cc
stays_by xs x place (Some name) e found =
    let same = seen_push xs x place name e in
    (ap (λ (o : Option (List ℕ × List ℕ)). unwrap_or o ([], [])) (same ∙ sym e), subst IsSome (sym same) found)

more_stays : (xs : List Instance) (x : Instance) (of : RowOf) → IsFound xs of → Stays xs (xs ++ x ∷ []) of
more_stays xs x (Placed place) found = stays_by xs x place (seen_at xs place) refl found
more_stays xs x (Named path text) found = (refl, tt)

first_stays : (first : Bool) (xs : List Instance) (x : Instance) (of : RowOf) → IsFound xs of → Stays xs (with_first first x xs) of
first_stays true xs x of found = more_stays xs x of found
first_stays false xs x of found = (refl, found)

same_listings : (xs ys : List Instance) → ((of : RowOf) → IsFound xs of → Stays xs ys of) → (rows : List Row) → All (IsPlaced xs) rows →
    map (listing_at ys) rows ≡ map (listing_at xs) rows
same_listings xs ys stays [] placed = refl
same_listings xs ys stays (row ∷ rows) placed =
    let n = (stays row.of (All-head (IsPlaced xs) row rows placed)).0 in
    ap (λ (m : List ℕ × List ℕ). let listing : Listing = record { path = m.0; text = m.1; status = row.status; blame = row.blame } in listing ∷ map (listing_at ys) rows) n
    ∙ ap (λ (ls : List Listing). listing_at xs row ∷ ls) (same_listings xs ys stays rows (All-tail (IsPlaced xs) row rows placed))

module _ (first : Bool) (xs ys : List Instance) (x : Instance) (is : ys ≡ with_first first x xs) where
  ys_stay : (of : RowOf) → IsFound xs of → Stays xs ys of
  ys_stay of found = subst (λ (zs : List Instance). Stays xs zs of) (sym is) (first_stays first xs x of found)

  -- the rows so far stay placed
  pub rows_stay : (rows : List Row) → All (IsPlaced xs) rows → All (IsPlaced ys) rows
  rows_stay rows placed = All-weaker (IsPlaced xs) (IsPlaced ys) (λ row found. (ys_stay row.of found).1) rows placed

  pub rows_more : (rows : List Row) (row : Row) → All (IsPlaced xs) rows → IsFound ys row.of → All (IsPlaced ys) (rows ++ row ∷ [])
  rows_more rows row placed found = All-push (IsPlaced ys) rows row (rows_stay rows placed) found

  -- one more visit is listed
  pub is_listed : (rows rows' : List Row) (row : Row) (status : Status) (waits : Option Wait) (unsettled : List Blame) (old : Rows) → All (IsPlaced xs) rows →
      ◌≡◌ {A = Rows} (xs, map (listing_at xs) rows, unsettled) old → rows' ≡ rows ++ row ∷ [] → row.status ≡ status → row.blame ≡ blame_by status first x.source waits → IsOf ys row.of x →
      ◌≡◌ {A = Rows} (ys, map (listing_at ys) rows', unsettled) (with_visit x status first waits old)
  is_listed rows rows' row status waits unsettled old placed view are by_status by_blame names =
      let new : Listing = record { path = x.path; text = x.text; status = status; blame = blame_by status first x.source waits } in
      let listed : listing_at ys row ≡ new = λ i. record { path = (names.0 i).0; text = (names.0 i).1; status = by_status i; blame = by_blame i } in
      let listings : map (listing_at ys) rows' ≡ map (listing_at xs) rows ++ new ∷ [] =
      ap (map (listing_at ys)) are
      ∙ (map-append (listing_at ys) rows (row ∷ [])
      ∙ (ap (λ (ls : List Listing). ls ++ listing_at ys row ∷ []) (same_listings xs ys ys_stay rows placed)
      ∙ ap (λ (l : Listing). map (listing_at xs) rows ++ l ∷ []) listed)) in
      ap (λ (zs : List Instance). let rows : Rows = (zs, map (listing_at ys) rows', unsettled) in rows) is
      ∙ (ap (λ (ls : List Listing). let rows : Rows = (with_first first x xs, ls, unsettled) in rows) listings
      ∙ ap (with_visit x status first waits) view)

-- ---- the instance of a visit

-- it stands at a place
pub is_of_seen : (xs : List Instance) (x : Instance) (place : ℕ) → seen_at xs place ≡ Some (name_of x) → IsOf xs (Placed place) x
is_of_seen xs x place is = (ap (λ (o : Option (List ℕ × List ℕ)). unwrap_or o ([], [])) is, subst IsSome (sym is) refl)

-- each row comes to the visit of its listing
visits_are : (xs : List Instance) (rows : List Row) → map (visit_at xs) rows ≡ map (visit_of xs) (map (listing_at xs) rows)
visits_are xs [] = refl
visits_are xs (row ∷ rows) = ap (λ (vs : List Visit). visit_at xs row ∷ vs) (visits_are xs rows)

-- the walk of a log that is kept so
pub walk_is : (xs : List Instance) (rows : List Row) (unsettled : List Blame) (log : Rows) (instances : List Instance) (visits : List Visit) (blames : List Blame) →
    ◌≡◌ {A = Rows} (xs, map (listing_at xs) rows, unsettled) log → instances ≡ xs → visits ≡ map (visit_at xs) rows → blames ≡ unsettled →
    ◌≡◌ {A = Walk} (record { instances = instances; visits = visits; unsettled = blames }) (walk_of log)
walk_is xs rows unsettled log instances visits blames view by_instances by_visits by_blames =
    let all : visits ≡ map (visit_of xs) (map (listing_at xs) rows) = by_visits ∙ visits_are xs rows in
    let kept : Rows = (xs, map (listing_at xs) rows, unsettled) in
    let parts : ◌≡◌ {A = Walk} (record { instances = instances; visits = visits; unsettled = blames }) (walk_of kept) =
    λ i. record { instances = by_instances i; visits = all i; unsettled = by_blames i } in
    parts ∙ ap walk_of view
