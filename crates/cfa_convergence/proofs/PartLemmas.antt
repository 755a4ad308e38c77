-- Texts in parts with separators before or behind each of them.
use Rattle.std.proofs.Common.{◌≢◌, ℕ, List, [], ◌∷◌, refl, arith, All}
use Rattle.std.specs.List.{flat_map}
use Rattle.std.proofs.lemmas.List.Elements.{All-nil, All-cons, All-head, All-tail, All-append}
use Rattle.cfa_base.specs.Lacking.{Lacks}
use Rattle.cfa_edits.specs.lemmas.Parts.{IsSeparator}

-- texts behind separators
pub lacks_led : (c separator : ℕ) (texts : List (List ℕ)) → separator ≢ c → All (Lacks c) texts → Lacks c (flat_map (λ text. separator ∷ text) texts)
lacks_led c separator [] ne all = All-nil (λ b. b ≢ c)
lacks_led c separator (text ∷ texts) ne all =
    All-append (λ b. b ≢ c) (separator ∷ text) (flat_map (λ text. separator ∷ text) texts)
    (All-cons (λ b. b ≢ c) separator text ne (All-head (Lacks c) text texts all))
    (lacks_led c separator texts ne (All-tail (Lacks c) text texts all))

-- ---- separators

pub semicolon : IsSeparator 59
semicolon = record { low = omega arith; none = refl; no_digit = λ d lt. λ e. omega arith }

pub space : IsSeparator 32
space = record { low = omega arith; none = refl; no_digit = λ d lt. λ e. omega arith }

pub asterisk : IsSeparator 42
asterisk = record { low = omega arith; none = refl; no_digit = λ d lt. λ e. omega arith }
