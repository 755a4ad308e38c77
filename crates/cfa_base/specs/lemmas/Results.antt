-- What follows for a result of which it is known that it is this error.
use Rattle.std.proofs.Common.{◌≡◌, Result, Ok, Err, IsErrAnd, sym, subst}

-- what holds of an error holds of a result that hands it on
pub on_err : {T E : Type 0} (P : Result T E → Type 0) (result : Result T E) (error : E) → IsErrAnd result (λ e. e ≡ error) → P (Err error) → P result
on_err P (Ok _) error same h = absurd same
on_err {T} {E} P (Err e) error same h = subst (λ (f : E). P (Err f)) (sym same) h
