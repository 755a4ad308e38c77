-- Lists of things under names, seen through the maps that keep them.
use Rattle.std.proofs.Common.{◌≡◌, ℕ, Bool, true, false, cond, List, [], ◌∷◌, Some, refl, ap, ◌∙◌}
use Rattle.std.specs.Map.{lookup}
use Rattle.std.specs.Str.{bytes_eq}
use Rattle.indexmap.specs.IndexMap.{insert_entry}
use Rattle.cfa_base.specs.TextMaps.{by_bytes}
use Rattle.cfa_vars.specs.Named.{thing_at, put}

-- the keys of the map are known by their bytes
abbrev same : {K : Type 0} → (K → List ℕ) → K → K → Bool
same bytes x y = bytes_eq (bytes x) (bytes y)

module _ {K X : Type 0} (bytes : K → List ℕ) where
  pub thing_at-by_bytes : (entries : List (K × X)) (name : List ℕ) → thing_at (by_bytes bytes entries) name ≡ lookup (λ k. bytes_eq name (bytes k)) entries
  thing_at-by_bytes [] name = refl
  thing_at-by_bytes (e ∷ es) name = ap (λ r. cond (bytes_eq name (bytes e.0)) (Some e.1) r) (thing_at-by_bytes es name)

  -- a change at the front or behind it
  put_step : (t : Bool) (e : K × X) (es : List (K × X)) (name : List ℕ) (x : X) (behind : List (K × X)) → by_bytes bytes behind ≡ put (by_bytes bytes es) name x → by_bytes bytes (cond t ((e.0, x) ∷ es) (e ∷ behind)) ≡ cond t ((bytes e.0, x) ∷ by_bytes bytes es) ((bytes e.0, e.1) ∷ put (by_bytes bytes es) name x)
  put_step true e es name x behind h = refl
  put_step false e es name x behind h = ap (λ r. (bytes e.0, e.1) ∷ r) h

  by_bytes-insert_entry : (entries : List (K × X)) (key : K) (x : X) → by_bytes bytes (insert_entry (same bytes) entries key x) ≡ put (by_bytes bytes entries) (bytes key) x
  by_bytes-insert_entry [] key x = refl
  by_bytes-insert_entry (e ∷ es) key x = put_step (bytes_eq (bytes key) (bytes e.0)) e es (bytes key) x (insert_entry (same bytes) es key x) (by_bytes-insert_entry es key x)

  -- what the map shows after an insertion
  pub put_seen : (new old : List (K × X)) (key : K) (x : X) (name : List ℕ) (seen : List (List ℕ × X)) → new ≡ insert_entry (same bytes) old key x → bytes key ≡ name → by_bytes bytes old ≡ seen → by_bytes bytes new ≡ put seen name x
  put_seen new old key x name seen h n s = ap (by_bytes bytes) h ∙ by_bytes-insert_entry old key x ∙ ap (λ b. put (by_bytes bytes old) b x) n ∙ ap (λ t. put t name x) s
