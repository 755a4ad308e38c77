-- A hash map whose keys are texts, seen as the finite map of its entries: what a look-up gives and a change puts.
use Rattle.std.proofs.Common.{◌≡◌, ℕ, Bool, List, Option, Some, None, cond, sym, ap, subst, refl, ◌∙◌}
use Rattle.std.proofs.lemmas.Map.Text.{is_eq-slice_cmp}
use Rattle.std.specs.Cmp.Lexicographic.{nat_list_cmp_total}
use Rattle.std.specs.FinMap as finite
use Rattle.std.specs.HashMap as hash
use Rattle.std.specs.Map.{lookup}
use Rattle.std.specs.Prelude.{IsSome, unwrap_or}
use Rattle.std.specs.Str.{bytes_eq}
use Rattle.cfa_base.specs.TextMaps.{text_map}
use Rattle.cfa_base.specs.lemmas.TextKeys.{in_hash, hash_updates}
use Rattle.cfa_base.specs.lemmas.TextMaps.{get-put, get-text_map, same_texts}
use Rattle.cfa_statuses.specs.declared.levels.Status.{Status}
use Rattle.cfa_statuses.specs.declared.levels.Status.TheVariants.{No}
use Rattle.cfa_statuses.specs.Status.{greater}
use Rattle.cfa_statuses.specs.Raised.{Raised, status_in, raised}

-- a look-up by bytes
pub get-hashed : {K X S : Type 0} (bytes : K → List ℕ) (m : hash.HashMap K X S) (bs : List ℕ) → finite.get (text_map bytes m.entries) bs ≡ in_hash bytes m bs
get-hashed {K} bytes m bs =
    get-text_map bytes m.entries bs
    ∙ ap (λ (test : K → Bool). lookup test m.entries) (λ i k. is_eq-slice_cmp bs (bytes k) i)

-- a value was put at what has these bytes
pub hashed-put : {K X S : Type 0} (bytes : K → List ℕ) (bs : List ℕ) (m n : hash.HashMap K X S) (x : X)
    → hash.UpdatesBy (λ x y. bytes_eq (bytes x) (bytes y)) (λ k. bytes_eq bs (bytes k)) m n (Some x)
    → text_map bytes n.entries ≡ finite.insert (text_map bytes m.entries) bs x
hashed-put bytes bs m n x updates = finite.same_map nat_list_cmp_total same_texts _ _ (λ q.
    get-hashed bytes n q
    ∙ hash_updates bytes bs m n (Some x) updates q
    ∙ ap (cond (bytes_eq bs q) (Some x)) (sym (get-hashed bytes m q))
    ∙ sym (get-put (text_map bytes m.entries) bs x q))

-- the status that is found at a text
pub status_in-hashed : {K S : Type 0} (bytes : K → List ℕ) (m : hash.HashMap K Status S) (marks : Raised) (bs text : List ℕ) (found : Option Status)
    → text_map bytes m.entries ≡ marks → bs ≡ text → found ≡ in_hash bytes m bs → status_in marks text ≡ unwrap_or found No
unfolding status_in
status_in-hashed bytes m marks bs text found view by_text is =
    let e : finite.get marks text ≡ found = ap (finite.get marks) (sym by_text) ∙ ap (λ n. finite.get n bs) (sym view) ∙ get-hashed bytes m bs ∙ sym is in
    ap (λ o. unwrap_or o No) e

-- a mark was raised where it lies
pub raised-written : {K S : Type 0} (bytes : K → List ℕ) (m n : hash.HashMap K Status S) (marks : Raised) (bs text : List ℕ) (to before after : Status)
    → text_map bytes m.entries ≡ marks → bs ≡ text → Some before ≡ in_hash bytes m bs
    → hash.WritesThrough (λ x y. bytes_eq (bytes x) (bytes y)) (λ k. bytes_eq bs (bytes k)) m after n → after ≡ greater before to
    → text_map bytes n.entries ≡ raised marks text to
unfolding raised
raised-written bytes m n marks bs text to before after view by_text is writes raises =
    let there : IsSome (in_hash bytes m bs) = subst IsSome is refl in
    let put : text_map bytes n.entries ≡ finite.insert (text_map bytes m.entries) bs after = hashed-put bytes bs m n after (writes.3 there) in
    let at : status_in marks text ≡ before = status_in-hashed bytes m marks bs text (Some before) view by_text is in
    let value : after ≡ greater (status_in marks text) to = raises ∙ ap (λ s. greater s to) (sym at) in
    put ∙ ap (λ t. finite.insert t bs after) view ∙ ap (λ t. finite.insert marks t after) by_text ∙ ap (finite.insert marks text) value

-- a text got its first mark
pub raised-added : {K S : Type 0} (bytes : K → List ℕ) (m n : hash.HashMap K Status S) (marks : Raised) (key : K) (bs text : List ℕ) (to : Status)
    → text_map bytes m.entries ≡ marks → bs ≡ text → bytes key ≡ text → None ≡ in_hash bytes m bs
    → hash.Updates (λ x y. bytes_eq (bytes x) (bytes y)) m n key (Some to)
    → text_map bytes n.entries ≡ raised marks text to
unfolding raised
raised-added bytes m n marks key bs text to view by_text by_key is updates =
    let put : text_map bytes n.entries ≡ finite.insert (text_map bytes m.entries) (bytes key) to = hashed-put bytes (bytes key) m n to updates in
    let at : status_in marks text ≡ No = status_in-hashed bytes m marks bs text None view by_text is in
    let value : to ≡ greater (status_in marks text) to = ap (λ s. greater s to) (sym at) in
    put ∙ ap (λ t. finite.insert t (bytes key) to) view ∙ ap (λ t. finite.insert marks t to) by_key ∙ ap (finite.insert marks text) value
