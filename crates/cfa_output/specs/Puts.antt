-- What a sink shows after bytes were put, or couldn't all be put.
use Rattle.std.specs.Prelude.{ℕ, ◌+◌, ◌-◌, ◌<◌, ◌≡◌, List, [], ◌++◌, length, take, drop, Option, Some, None, option_map, refl}
use Rattle.std.proofs.Common.{sym, ◌∙◌, ap, append_assoc, append-nil}
use Rattle.std.proofs.lemmas.List.{take_rest}
use Rattle.std.proofs.Math.Seq.{take-add}
use Rattle.cfa_base.specs.Shown.{Shown, followed, Follows, HasFailed}
use Rattle.cfa_outside.specs.Sinks.{adds_bytes}

-- a first part of the bytes, which isn't all, was put before a put failed
pub record PutsShort (bytes : List ℕ) (before after : Shown (List ℕ)) : Type 0 where
  pub count : ℕ
  pub short : count < length bytes
  pub failed : HasFailed (adds_bytes (take count bytes)) before after

-- to put nothing changes nothing
pub puts_nothing : (shown : Shown (List ℕ)) → Follows (adds_bytes []) shown shown
puts_nothing shown i = record { told = nothing shown.told i; faults = shown.faults } where
  nothing : (told : Option (List ℕ)) → told ≡ option_map (adds_bytes []) told
  nothing None = refl
  nothing (Some so_far) = ap Some (sym (append-nil so_far))

-- what is put in two parts is put as one
pub puts_both : (a b : List ℕ) (shown : Shown (List ℕ)) →
    followed (adds_bytes b) (followed (adds_bytes a) shown) ≡ followed (adds_bytes (a ++ b)) shown
puts_both a b shown i = record { told = both shown.told i; faults = shown.faults } where
  both : (told : Option (List ℕ)) → option_map (adds_bytes b) (option_map (adds_bytes a) told) ≡ option_map (adds_bytes (a ++ b)) told
  both None = refl
  both (Some so_far) = ap Some (append_assoc so_far a b)

pub puts_then : (a b : List ℕ) (before mid after : Shown (List ℕ)) →
    Follows (adds_bytes a) before mid → Follows (adds_bytes b) mid after → Follows (adds_bytes (a ++ b)) before after
puts_then a b before mid after first then = then ∙ ap (followed (adds_bytes b)) first ∙ puts_both a b before

-- more of the bytes are put
pub puts_more : (bytes : List ℕ) (count more : ℕ) (before mid after : Shown (List ℕ)) →
    Follows (adds_bytes (take count bytes)) before mid →
    Follows (adds_bytes (take more (take (length bytes - count) (drop count bytes)))) mid after →
    Follows (adds_bytes (take (count + more) bytes)) before after
puts_more bytes count more before mid after first then =
    puts_then (take count bytes) (take more (take (length bytes - count) (drop count bytes))) before mid after first then ∙
    ap (λ part. followed (adds_bytes (take count bytes ++ take more part)) before) (take_rest bytes count) ∙
    ap (λ part. followed (adds_bytes part) before) (sym (take-add count more bytes))
